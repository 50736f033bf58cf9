-- What `Display` writes for an error of the printer.
use Rattle.std.specs.Prelude.{ℕ, List, codes}
use Rattle.ixdtf_print.specs.declared.error.PrintError.{PrintError, TheVariants.{NotPrintable, TooShort}}

-- The text of an error.
abbrev pub print_message : PrintError → List ℕ
print_message NotPrintable = codes "No text stands for the record."
print_message TooShort = codes "There is less room than the text takes."
