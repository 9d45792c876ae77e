pub mod HexWalk
