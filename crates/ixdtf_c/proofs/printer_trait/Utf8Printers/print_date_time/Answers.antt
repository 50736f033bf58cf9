use Rattle.ixdtf_c.proofs.printer_trait.Utf8Printers.print_date_time.Goals as goal

pub returns-clause-prints : goal.returns-clause-prints
returns-clause-prints c = record {
  count = c.print.ensures.count;
  fits = c.print.ensures.fits;
  text = c.print.ensures.text;
  rest = c.print.ensures.rest;
  not_printable = c.print.ensures.not_printable;
  too_short = c.print.ensures.too_short;
  unchanged = c.print.ensures.unchanged;
}
