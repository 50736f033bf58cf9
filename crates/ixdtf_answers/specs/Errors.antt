-- Defines the position and the reason of the error of a text that is read without a handler.
use Rattle.std.specs.Prelude.{ℕ, []}
use Rattle.ixdtf_grammar.specs.{Places.{HasUnhandledFaultAt, UnhandledReason}, declared.reason.Reason.Reason}
use Rattle.ixdtf_grammar.specs.{language.{Letters.Text, Readers.Reader}, table.{Faults.Fault, Outcomes.HasReason}}
use Rattle.ixdtf_grammar.specs.language.Readers.Reader.{bracketed, parse_rfc3339, parse_offset, parse_identifier, parse_iana_identifier, parse_duration}

-- In the reader without a handler, the text gives an error with the reason.
abbrev pub HasUnhandledReason : Reader → Text → Reason → Type 0
HasUnhandledReason (bracketed kind) text reason = UnhandledReason (bracketed kind) text reason
HasUnhandledReason parse_rfc3339 text reason = HasReason parse_rfc3339 text [] reason
HasUnhandledReason parse_offset text reason = HasReason parse_offset text [] reason
HasUnhandledReason parse_identifier text reason = HasReason parse_identifier text [] reason
HasUnhandledReason parse_iana_identifier text reason = HasReason parse_iana_identifier text [] reason
HasUnhandledReason (parse_duration profile) text reason = HasReason (parse_duration profile) text [] reason

-- In the reader without a handler, the text gives an error at the position, and an error with the reason. A text gives only one error, at
-- one position and with one reason.
abbrev pub RefusesAt : Reader → Text → ℕ → Reason → Type 0
RefusesAt reader text at reason = (fault : Fault) × HasUnhandledFaultAt reader text fault at × HasUnhandledReason reader text reason
