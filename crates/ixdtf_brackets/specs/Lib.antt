pub mod BracketTypes
