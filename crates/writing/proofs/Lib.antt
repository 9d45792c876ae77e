pub mod DecimalLaws
pub mod RoomLaws
