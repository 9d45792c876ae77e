pub mod UnquoteWalk
