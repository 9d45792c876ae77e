pub mod MessageFrames
