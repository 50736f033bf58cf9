-- The text of an error that a reader returns without a handler is short.
use Rattle.std.proofs.Common.{◌≤◌, [], length, inl, inr, arith}
use Rattle.ixdtf_grammar.specs.language.{Letters.Text, Readers.{Reader, Reader.bracketed}}
use Rattle.ixdtf_grammar.specs.{table.{ErrorTexts.message_of, Faults.Fault}, Handlers.UnhandledFault, Widths.{HasUnhandledOutcome, UnhandledOutcome.faulted}}
use Rattle.ixdtf_grammar.proofs.theorems.NoRow.{fault_short}
use Rattle.ixdtf_reading.proofs.theorems.Replies.{refused_split}

unhandled_short : (reader : Reader) (text : Text) (fault : Fault) → UnhandledFault reader text fault → length (message_of fault) ≤ 69
unhandled_short reader text fault (pairs, gives) = elim gives [
  | inl p ↦ elim (refused_split _ _ fault p.1.refused) [ inl same ↦ rw same.0 (omega arith) | inr same ↦ rw same.0 (omega arith) ]
  | inr p ↦ fault_short reader text pairs fault p.0
]

-- If a reader returns an error with each annotation as its own reply, the message of the error has at most 69 bytes.
pub message_short : (reader : Reader) (text : Text) (fault : Fault) → HasUnhandledOutcome reader text (faulted fault) → length (message_of fault) ≤ 69
message_short (bracketed kind) text fault h = unhandled_short (bracketed kind) text fault h
message_short reader text fault h = fault_short reader text [] fault h
