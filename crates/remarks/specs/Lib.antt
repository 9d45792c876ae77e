pub mod PreambleSaid
