use Rattle.ixdtf_print.proofs.laws.canonical_fits.Goals as goal
use Rattle.ixdtf.specs.language.Readers.CoreKind.{date_time}
use Rattle.ixdtf_print.proofs.{parts.ParsedParts.to_parts, theorems.PrintableRecords.of_record}

pub returns : goal.returns
returns c text found h = (of_record text found (to_parts date_time text found h)).1
