use Rattle.ixdtf_c.proofs.error_reports.add_report.Goals as goal
use Rattle.std.proofs.Common.{◌≡◌, List, ℕ, ◌++◌, codes, take, Option, None, Some, refl, sym, ap, append-nil}
use Rattle.std.specs.Str.Lossy.{utf8_valid_len}
use Rattle.ixdtf_explanations.specs.declared.part.WrongPart.{WrongPart}
use Rattle.ixdtf_explanations.specs.declared.message.Message.{Message}
use Rattle.ixdtf_explanations.specs.Messages.{message_text}
use Rattle.ixdtf_explanations.specs.LocatedTexts.{pointed_text}
use Rattle.ixdtf_c.specs.Reported.{report_text}
use Rattle.ixdtf_c.proofs.Added.{adds_as, adds_then}

without_hint : (message : Message) (part : WrongPart) (hint : Option Message) (text front : List ℕ) → hint ≡ None → front ≡ take (utf8_valid_len text) text
    → message_text message ++ (codes "\n" ++ pointed_text front part.begin part.end) ≡ report_text message part hint text
without_hint message part hint text front none same = rw (none, same) (ap (λ l. message_text message ++ (codes "\n" ++ l)) (sym (append-nil _)))

with_hint : (message words : Message) (part : WrongPart) (hint : Option Message) (text front : List ℕ) → hint ≡ Some words → front ≡ take (utf8_valid_len text) text
    → message_text message ++ (codes "\n" ++ (pointed_text front part.begin part.end ++ (codes "\nhint: " ++ message_text words))) ≡ report_text message part hint text
with_hint message words part hint text front some same = rw (some, same) refl

pub returns-in-None : goal.returns-in-None
returns-in-None c =
    adds_as (without_hint c.args.report.now.message c.args.report.now.part _ c.args.report.now.text.now _ c.in-None.is c.valid_front.ensures)
    (adds_then c.add_message-newline.ensures (adds_then c.add-lines.ensures c.add_pointed-end.ensures))

pub returns-in-Some : goal.returns-in-Some
returns-in-Some c =
    adds_as (with_hint c.args.report.now.message c.in-Some.hint c.args.report.now.part _ c.args.report.now.text.now _ c.in-Some.is c.valid_front.ensures)
    (adds_then c.add_message-newline.ensures (adds_then c.add-lines.ensures (adds_then c.add_pointed-end.ensures (adds_then c.add-words.ensures c.add_message.ensures))))
