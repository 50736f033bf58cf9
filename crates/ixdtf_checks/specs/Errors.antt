-- Defines the reason of the error of a text that is read without a handler.
use Rattle.std.specs.Prelude.{[]}
use Rattle.ixdtf_grammar.specs.{Places.{HasUnhandledFaultAt, UnhandledReason}, declared.reason.Reason.Reason}
use Rattle.ixdtf_explanations.specs.declared.located.LocatedError.{LocatedError}
use Rattle.ixdtf_grammar.specs.{language.{Letters.Text, Readers.Reader}, table.Outcomes.HasReason}
use Rattle.ixdtf_explanations.specs.LocatedFaults.{fault_of_located}
use Rattle.ixdtf_grammar.specs.language.Readers.Reader.{bracketed, parse_rfc3339, parse_offset, parse_identifier, parse_iana_identifier, parse_duration}

-- In the reader without a handler, the text gives an error with the reason.
abbrev pub HasUnhandledReason : Reader → Text → Reason → Type 0
HasUnhandledReason (bracketed kind) text reason = UnhandledReason (bracketed kind) text reason
HasUnhandledReason parse_rfc3339 text reason = HasReason parse_rfc3339 text [] reason
HasUnhandledReason parse_offset text reason = HasReason parse_offset text [] reason
HasUnhandledReason parse_identifier text reason = HasReason parse_identifier text [] reason
HasUnhandledReason parse_iana_identifier text reason = HasReason parse_iana_identifier text [] reason
HasUnhandledReason (parse_duration profile) text reason = HasReason (parse_duration profile) text [] reason

-- In the reader without a handler, the text has this error, at its position and with its reason.
abbrev pub HasError : Reader → Text → LocatedError → Type 0
HasError reader text error = HasUnhandledFaultAt reader text (fault_of_located error) error.at × HasUnhandledReason reader text error.reason
