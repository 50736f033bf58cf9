-- The texts that `parse_rfc9557` accepts, compared with those of `parse_rfc3339` and of `parse`.
use Rattle.std.proofs.Common.{List, [], Option, Some, None, true, false, refl, sym, append-nil}
use Rattle.ixdtf_grammar.specs.language.{Letters.Text, Brackets.{Pair, ZoneNote, IsTail}, Readers.{parse, parse_rfc9557}}
use Rattle.ixdtf_grammar.specs.language.Languages.{Parsed, parsed_with, Derives, Derives.{as_parsed, as_dated}, Found.parsed}
use Rattle.ixdtf_grammar.specs.{Handlers.{UnhandledRecord}, Rfc9557Laws.{Rfc9557ReadsTheSame, ParseGivesTheSame}}
use Rattle.ixdtf_grammar.proofs.parts.Texts.{bracketed_text}
use Rattle.ixdtf_reading.proofs.theorems.{Replies.{NoneRefused-nothing}, Rfc3339Texts.{date_time_core}}

pub rfc_9557_reads_the_same : Rfc9557ReadsTheSame
rfc_9557_reads_the_same text found (as_dated (core, d, is)) =
    let derived : Derives parse_rfc9557 text (parsed (parsed_with core None)) [] =
    as_parsed (bracketed_text text [] core None [] (sym (append-nil text)) d ([], [], refl, refl, refl)) in
    ([], record { read = parsed_with core None; whole = derived; accepted = NoneRefused-nothing; has = rw is refl })

-- An exact zone is also a zone.
any_tail : (text : Text) (zone : Option ZoneNote) (pairs : List Pair) → IsTail true text zone pairs → IsTail false text zone pairs
any_tail text None pairs h = h
any_tail text (Some note) pairs h = (h.0, h.1, h.2, (h.3.0, tt), h.4)

derives_the_same : (text : Text) (found : Parsed) (pairs : List Pair) → Derives parse_rfc9557 text (parsed found) pairs → Derives parse text (parsed found) pairs
derives_the_same text found pairs (as_parsed d) = as_parsed (record {
  cores = d.cores;
  brackets = d.brackets;
  core = d.core;
  zone = d.zone;
  is = d.is;
  is_core = date_time_core d.cores d.core d.is_core;
  is_tail = any_tail d.brackets d.zone pairs d.is_tail;
  has = d.has;
})

pub parse_gives_the_same : ParseGivesTheSame
parse_gives_the_same text pairs replies found h =
    record { read = h.read; whole = derives_the_same text h.read pairs h.whole; accepted = h.accepted; has = h.has }
