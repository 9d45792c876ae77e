pub mod JoinedLaws
pub mod ListRoomLaws
