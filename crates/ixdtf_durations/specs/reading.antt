-- Statements about the reading functions of durations. Private clauses refer to them, public clauses do not.
pub mod DurationClauses
