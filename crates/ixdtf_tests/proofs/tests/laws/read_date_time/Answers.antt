use Rattle.std.proofs.Common.{refl, ◌≡◌, Result, Ok, Err, IsOk, map}
use Rattle.ixdtf_grammar.specs.declared.error.ParseError.{ParseError}
use Rattle.ixdtf.specs.language.Letters.{byte_letter}
use Rattle.ixdtf.specs.Views.{returned}
use Rattle.ixdtf_tests.proofs.tests.laws.read_date_time.Goals as goal

ok_returned : {X Y : Type 0} (view : X → Y) (r : Result X ParseError) (y : Y) → returned view r ≡ Ok y → IsOk r
ok_returned view (Ok x) y is = refl
ok_returned view (Err e) y is = absurd cc

pub returns : goal.returns
returns c is =
    let (found, derived, unhandled) = c.every_rfc3339_date_time_is_read.ensures (map byte_letter c.args.bytes.now) is in
    ok_returned _ c.parse.result found ((c.parse.ensures.reads.ok found).1 (rw c.from_utf8.ensures.rest unhandled))
