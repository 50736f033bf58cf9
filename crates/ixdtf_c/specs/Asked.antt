-- What a program asks when it wants to know why a reader refuses a text.
use Rattle.ixdtf_c.specs.declared.reader_numbers.Reader.TheVariants as named
use Rattle.std.specs.Prelude.{◌≡◌, ℕ, List, [], nat_eq, if◌then◌else◌, Option, Some, None, IfSome, IfNone}
use Rattle.ixdtf_grammar.specs.declared.{profile.Profile.{TheVariants.{Crate, Strict}}, reason.Reason.Reason}
use Rattle.ixdtf.specs.language.{Letters.Text, Brackets.Pair, Languages.{Parsed, Found, Derives}, Readers.{Reader, parse, parse_rfc9557, parse_year_month, parse_month_day, parse_time}}
use Rattle.ixdtf.specs.language.Readers.Reader.{bracketed, parse_rfc3339, parse_offset, parse_identifier, parse_iana_identifier, parse_duration}
use Rattle.ixdtf.specs.{table.{Faults.Fault, Outcomes.{HasFaultAt, HasReason}}, Handlers.UnhandledRecord, Places.{UnhandledFaultAt, UnhandledReason}}
use Rattle.ixdtf_c.specs.declared.reader_numbers.Reader.{Reader as Named}

-- A reader without a handler, or a reader that lists annotations and refuses none of them.
pub data Asked : Type 0 where
  unhandled listing : Reader → Asked

-- What each number asks about.
abbrev pub asked_by : ℕ → Option Asked
asked_by number =
    if nat_eq number 1 then Some (unhandled parse)
    else (if nat_eq number 2 then Some (unhandled parse_year_month)
    else (if nat_eq number 3 then Some (unhandled (parse_month_day Crate))
    else (if nat_eq number 4 then Some (unhandled (parse_time Crate))
    else (if nat_eq number 5 then Some (unhandled parse_rfc3339)
    else (if nat_eq number 6 then Some (unhandled parse_rfc9557)
    else (if nat_eq number 7 then Some (unhandled parse_offset)
    else (if nat_eq number 8 then Some (unhandled parse_identifier)
    else (if nat_eq number 9 then Some (unhandled parse_iana_identifier)
    else (if nat_eq number 10 then Some (unhandled (parse_duration Crate))
    else (if nat_eq number 11 then Some (unhandled (parse_month_day Strict))
    else (if nat_eq number 12 then Some (unhandled (parse_time Strict))
    else (if nat_eq number 13 then Some (unhandled (parse_duration Strict))
    else (if nat_eq number 14 then Some (listing parse)
    else (if nat_eq number 15 then Some (listing parse_year_month)
    else (if nat_eq number 16 then Some (listing (parse_month_day Crate))
    else (if nat_eq number 17 then Some (listing (parse_time Crate))
    else (if nat_eq number 18 then Some (listing parse_rfc9557)
    else (if nat_eq number 19 then Some (listing (parse_month_day Strict))
    else (if nat_eq number 20 then Some (listing (parse_time Strict))
    else None)))))))))))))))))))

-- What the code asks about.
abbrev pub asked_of : Named → Asked
asked_of named.Parse = unhandled parse
asked_of named.YearMonth = unhandled parse_year_month
asked_of named.MonthDay = unhandled (parse_month_day Crate)
asked_of named.Time = unhandled (parse_time Crate)
asked_of named.Rfc3339 = unhandled parse_rfc3339
asked_of named.Rfc9557 = unhandled parse_rfc9557
asked_of named.Offset = unhandled parse_offset
asked_of named.Identifier = unhandled parse_identifier
asked_of named.IanaIdentifier = unhandled parse_iana_identifier
asked_of named.Duration = unhandled (parse_duration Crate)
asked_of named.StrictMonthDay = unhandled (parse_month_day Strict)
asked_of named.StrictTime = unhandled (parse_time Strict)
asked_of named.StrictDuration = unhandled (parse_duration Strict)
asked_of named.Listing = listing parse
asked_of named.ListingYearMonth = listing parse_year_month
asked_of named.ListingMonthDay = listing (parse_month_day Crate)
asked_of named.ListingTime = listing (parse_time Crate)
asked_of named.ListingRfc9557 = listing parse_rfc9557
asked_of named.ListingStrictMonthDay = listing (parse_month_day Strict)
asked_of named.ListingStrictTime = listing (parse_time Strict)

-- The grammar derives a value from the text, without annotations.
abbrev pub Reads : Reader → Text → Type 0
Reads reader text = (found : Found) × Derives reader text found []

-- The reader accepts the text.
abbrev pub Accepts : Asked → Text → Type 0
Accepts (unhandled (bracketed kind)) text = (found : Parsed) × UnhandledRecord (bracketed kind) text found
Accepts (unhandled parse_rfc3339) text = Reads parse_rfc3339 text
Accepts (unhandled parse_offset) text = Reads parse_offset text
Accepts (unhandled parse_identifier) text = Reads parse_identifier text
Accepts (unhandled parse_iana_identifier) text = Reads parse_iana_identifier text
Accepts (unhandled (parse_duration profile)) text = Reads (parse_duration profile) text
Accepts (listing reader) text = (found : Found) × (pairs : List Pair) × Derives reader text found pairs

-- A row with the error fits at the position, and a row fits whose line has the reason, with these annotations before it.
abbrev pub HasError : Reader → Text → List Pair → Fault → ℕ → Reason → Type 0
HasError reader text pairs fault at reason = HasFaultAt reader text pairs fault at × HasReason reader text pairs reason

-- The reader refuses the text with the error at the position, for the reason.
abbrev pub Refuses : Asked → Text → Fault → ℕ → Reason → Type 0
Refuses (unhandled (bracketed kind)) text fault at reason = UnhandledFaultAt (bracketed kind) text fault at × UnhandledReason (bracketed kind) text reason
Refuses (unhandled parse_rfc3339) text fault at reason = HasError parse_rfc3339 text [] fault at reason
Refuses (unhandled parse_offset) text fault at reason = HasError parse_offset text [] fault at reason
Refuses (unhandled parse_identifier) text fault at reason = HasError parse_identifier text [] fault at reason
Refuses (unhandled parse_iana_identifier) text fault at reason = HasError parse_iana_identifier text [] fault at reason
Refuses (unhandled (parse_duration profile)) text fault at reason = HasError (parse_duration profile) text [] fault at reason
Refuses (listing reader) text fault at reason = (pairs : List Pair) × HasError reader text pairs fault at reason

-- The reader refuses the text with this error, at this position and for this reason. It refuses the text with no other error, at no
-- other position and for no other reason, and it does not accept the text.
pub record IsRefusal (asked : Asked) (text : Text) (fault : Fault) (at : ℕ) (reason : Reason) : Type 0 where
  pub refuses : Refuses asked text fault at reason
  pub only : (other : Fault) (there : ℕ) (why : Reason) → Refuses asked text other there why → (other ≡ fault) × (there ≡ at) × (why ≡ reason)
  pub not_accepted : ¬ (Accepts asked text)

-- The error of the reader, or `None` if it accepts the text. `named` gives the error of the fault table, and `stands` says which reason and
-- which position the error has.
pub record IsOutcome {E : Type 0} (named_by : E → Fault) (stands : Reason → ℕ → E → Type 0) (asked : Asked) (text : Text) (outcome : Option E) : Type 0 where
  pub accepted : IfNone outcome (Accepts asked text)
  pub refused : IfSome outcome (λ e. (reason : Reason) × (at : ℕ) × stands reason at e × IsRefusal asked text (named_by e) at reason)
