-- Defines what the words after the name of the program mean.
use Rattle.std.specs.Prelude.{◌≡◌, ◌≢◌, ◌⊎◌, ℕ, ◌+◌, ◌-◌, ◌^◌, ◌<◌, ◌==◌, Bool, true, false, not, min, if◌then◌else◌, List, [], ◌∷◌, ◌++◌, length, slice_index_or, codes, Option, Some, None, unwrap_or}
use Rattle.std.specs.Str.Parse.{IsNumeral, digits_value, without_leading_plus}
use Rattle.ixdtf_grammar.specs.declared.profile.Profile.TheVariants as profiles
use Rattle.ixdtf_checks.specs.declared.{request.{Field.Field, Format.Format, Request.Request, Skips.Skips, Task.Task}, kind.{InstantKind.InstantKind, Kind.Kind}}
use Rattle.ixdtf_checks.specs.declared.kind.Kind.TheVariants as kinds
use Rattle.ixdtf_checks.specs.declared.request.Extent.TheVariants as extents
use Rattle.ixdtf_checks.specs.declared.request.Format.TheVariants as formats
use Rattle.ixdtf_checks.specs.declared.request.Task.TheVariants as tasks
use Rattle.ixdtf_checks.specs.declared.{arguments.{Awaited.Awaited, FieldName.FieldName, Options.Options, Word.Word, Wrong.Wrong}, option_name.{Meaning.Meaning, OptionName.OptionName}, option_value.{Color.Color, Column.Column, Setting.Setting, Valued.Valued}}
use Rattle.ixdtf_checks.specs.declared.option_name.OptionName.TheVariants as names
use Rattle.ixdtf_checks.specs.declared.option_name.Meaning.TheVariants as meanings
use Rattle.ixdtf_checks.specs.declared.option_value.Valued.TheVariants as valued
use Rattle.ixdtf_checks.specs.declared.option_value.Setting.TheVariants as settings
use Rattle.ixdtf_checks.specs.declared.arguments.Awaited.TheVariants as awaited
use Rattle.ixdtf_checks.specs.declared.option_value.Column.TheVariants as columns
use Rattle.ixdtf_checks.specs.declared.option_value.Color.TheVariants as colors
use Rattle.ixdtf_checks.specs.declared.arguments.Word.TheVariants as roles
use Rattle.ixdtf_checks.specs.declared.arguments.Wrong.TheVariants as wrongs
use Rattle.ixdtf_checks.specs.{Csv.IsWithout, Kinds.{IsNamed, instant_kind, name_of as kind_name}}

-- ---- the options

-- No option is set before the first word.
abbrev pub no_options : Options
no_options = record {
  awaited = awaited.Anything;
  words = 0;
  kind = None;
  is_strict = false;
  column = None;
  separator = None;
  is_csv = false;
  skips = record { header = false; blank = false; comment = None };
  most_reports = None;
  format = formats.Text;
  color = colors.Auto;
  is_canonical = false;
  is_ordered = false;
  is_quiet = false;
}

-- This is the name of an option, and what the option means.
abbrev pub row_of : OptionName → List ℕ × Meaning
row_of names.Kind = (codes "--kind", meanings.Takes valued.Kind)
row_of names.Strict = (codes "--strict", meanings.Sets settings.Strict)
row_of names.Ordered = (codes "--ordered", meanings.Sets settings.Ordered)
row_of names.Field = (codes "--field", meanings.Takes valued.Field)
row_of names.Fields = (codes "--fields", meanings.Takes valued.Fields)
row_of names.Csv = (codes "--csv", meanings.Sets settings.Csv)
row_of names.Separator = (codes "--separator", meanings.Takes valued.Separator)
row_of names.Header = (codes "--header", meanings.Sets settings.Header)
row_of names.SkipBlank = (codes "--skip-blank", meanings.Sets settings.SkipBlank)
row_of names.Comment = (codes "--comment", meanings.Takes valued.Comment)
row_of names.Canonical = (codes "--canonical", meanings.Sets settings.Canonical)
row_of names.MaxReports = (codes "--max-reports", meanings.Takes valued.MaxReports)
row_of names.Format = (codes "--format", meanings.Takes valued.Format)
row_of names.Color = (codes "--color", meanings.Takes valued.Color)
row_of names.Quiet = (codes "--quiet", meanings.Sets settings.Quiet)
row_of names.Help = (codes "--help", meanings.Help)
row_of names.HelpLetter = (codes "-h", meanings.Help)
row_of names.Version = (codes "--version", meanings.Version)
row_of names.VersionLetter = (codes "-V", meanings.Version)
row_of names.Files = (codes "--", meanings.Files)

abbrev pub name_of : OptionName → List ℕ
name_of option = (row_of option).0

abbrev pub meaning_of : OptionName → Meaning
meaning_of option = (row_of option).1

-- This is the option that has the name. If it is `None`, no option has the name.
abbrev pub IsOption : List ℕ → Option OptionName → Type 0
IsOption name None = (option : OptionName) → name ≢ name_of option
IsOption name (Some option) = name ≡ name_of option

-- These are the options with one more setting. It replaces an earlier setting of the same kind.
abbrev pub with_setting : Setting → Options → Options
with_setting settings.Strict options = record options { is_strict = true }
with_setting settings.Ordered options = record options { is_ordered = true }
with_setting settings.Csv options = record options { is_csv = true }
with_setting settings.Header options = record options { skips = record options.skips { header = true } }
with_setting settings.SkipBlank options = record options { skips = record options.skips { blank = true } }
with_setting settings.Canonical options = record options { is_canonical = true }
with_setting settings.Quiet options = record options { is_quiet = true }
with_setting (settings.Kind kind) options = record options { kind = Some kind }
with_setting (settings.Column column) options = record options { column = Some column }
with_setting (settings.Separator byte) options = record options { separator = Some byte }
with_setting (settings.Comment byte) options = record options { skips = record options.skips { comment = Some byte } }
with_setting (settings.MaxReports count) options = record options { most_reports = Some count }
with_setting (settings.Format format) options = record options { format = format }
with_setting (settings.Color color) options = record options { color = color }

-- ---- the values of options

-- The value is a decimal number below 2^64. A `+` may be before it.
abbrev pub IsNumber : List ℕ → ℕ → Type 0
IsNumber value number = IsNumeral 10 (without_leading_plus value) × (digits_value 10 (without_leading_plus value) ≡ number) × (number < 2 ^ 64)

abbrev pub IsNoNumber : List ℕ → Type 0
IsNoNumber value = (number : ℕ) → ¬ (IsNumber value number)

abbrev pub IsKindSetting : List ℕ → Setting → Type 0
IsKindSetting value setting = (kind : Kind) × (value ≡ kind_name kind) × (setting ≡ settings.Kind kind)

-- The value is the number of a field, from 1, or it is no number. Then it is the name of a field, which is at this place.
abbrev pub IsFieldSetting : FieldName → List ℕ → Setting → Type 0
IsFieldSetting place value setting =
    ((before : ℕ) × IsNumber value (before + 1) × (setting ≡ settings.Column (columns.After before)))
    ⊎ (IsNoNumber value × (value ≢ []) × (setting ≡ settings.Column (columns.Named place)))

-- The value is neither the number of a field nor a name.
abbrev pub IsNoField : List ℕ → Type 0
IsNoField value = (value ≡ []) ⊎ IsNumber value 0

-- The value has the numbers of the first field and of the last field, with a `-` between them.
abbrev pub IsFieldsSetting : List ℕ → Setting → Type 0
IsFieldsSetting value setting = (before : ℕ) × (more : ℕ) × (first : List ℕ) × (last : List ℕ) × (value ≡ first ++ 45 ∷ last)
    × IsNumber first (before + 1) × IsNumber last (before + 1 + more) × (setting ≡ settings.Column (columns.Between before more))

abbrev pub IsNoFields : List ℕ → Type 0
IsNoFields value = (setting : Setting) → ¬ (IsFieldsSetting value setting)

-- The value is one byte, or `\t` for a tab.
abbrev pub IsSeparatorSetting : List ℕ → Setting → Type 0
IsSeparatorSetting value setting =
    ((byte : ℕ) × (value ≡ byte ∷ []) × (setting ≡ settings.Separator byte)) ⊎ ((value ≡ codes "\\t") × (setting ≡ settings.Separator 9))

abbrev pub IsNoSeparator : List ℕ → Type 0
IsNoSeparator value = (length value ≢ 1) × (value ≢ codes "\\t")

abbrev pub IsCommentSetting : List ℕ → Setting → Type 0
IsCommentSetting value setting = (byte : ℕ) × (value ≡ byte ∷ []) × (setting ≡ settings.Comment byte)

abbrev pub IsCountSetting : List ℕ → Setting → Type 0
IsCountSetting value setting = (count : ℕ) × IsNumber value count × (setting ≡ settings.MaxReports count)

abbrev pub IsFormatSetting : List ℕ → Setting → Type 0
IsFormatSetting value setting = ((value ≡ codes "text") × (setting ≡ settings.Format formats.Text))
    ⊎ ((value ≡ codes "json") × (setting ≡ settings.Format formats.Json))

abbrev pub IsColorSetting : List ℕ → Setting → Type 0
IsColorSetting value setting = ((value ≡ codes "auto") × (setting ≡ settings.Color colors.Auto))
    ⊎ (((value ≡ codes "always") × (setting ≡ settings.Color colors.Always)) ⊎ ((value ≡ codes "never") × (setting ≡ settings.Color colors.Never)))

-- The option says this with the value. The value begins at this place.
abbrev pub IsSetting : Valued → FieldName → List ℕ → Setting → Type 0
IsSetting valued.Kind place value setting = IsKindSetting value setting
IsSetting valued.Field place value setting = IsFieldSetting place value setting
IsSetting valued.Fields place value setting = IsFieldsSetting value setting
IsSetting valued.Separator place value setting = IsSeparatorSetting value setting
IsSetting valued.Comment place value setting = IsCommentSetting value setting
IsSetting valued.MaxReports place value setting = IsCountSetting value setting
IsSetting valued.Format place value setting = IsFormatSetting value setting
IsSetting valued.Color place value setting = IsColorSetting value setting

-- The option cannot have the value, for this reason.
abbrev pub IsWrongValue : Valued → List ℕ → Wrong → Type 0
IsWrongValue valued.Kind value wrong = (wrong ≡ wrongs.UnknownKind) × IsNamed value None
IsWrongValue valued.Field value wrong = (wrong ≡ wrongs.InvalidField) × IsNoField value
IsWrongValue valued.Fields value wrong = (wrong ≡ wrongs.InvalidFields) × IsNoFields value
IsWrongValue valued.Separator value wrong = (wrong ≡ wrongs.InvalidSeparator) × IsNoSeparator value
IsWrongValue valued.Comment value wrong = (wrong ≡ wrongs.InvalidComment) × (length value ≢ 1)
IsWrongValue valued.MaxReports value wrong = (wrong ≡ wrongs.InvalidCount) × IsNoNumber value
IsWrongValue valued.Format value wrong = (wrong ≡ wrongs.UnknownFormat) × ((setting : Setting) → ¬ (IsFormatSetting value setting))
IsWrongValue valued.Color value wrong = (wrong ≡ wrongs.UnknownColor) × ((setting : Setting) → ¬ (IsColorSetting value setting))

-- ---- one word after the other

-- The word does not begin with a `-`, or is `-`.
abbrev pub IsFileName : List ℕ → Type 0
IsFileName word = (word ≡ codes "-") ⊎ (slice_index_or word 0 0 ≢ 45)

-- The value of an option is taken, or refused. Nothing is awaited then.
abbrev pub TakesValue : Valued → ℕ → Options → List ℕ → Word → Options → Type 0
TakesValue option start old value role new =
    ((setting : Setting) × IsSetting option (record { word = old.words; start = start }) value setting
    × (role ≡ roles.Option) × (new ≡ with_setting setting (record old { awaited = awaited.Anything })))
    ⊎ ((wrong : Wrong) × IsWrongValue option value wrong × (role ≡ roles.Wrong wrong) × (new ≡ record old { awaited = awaited.Anything }))

-- A word is an option of this meaning.
abbrev pub TakesMeaning : Meaning → Options → Word → Options → Type 0
TakesMeaning meanings.Help old role new = (role ≡ roles.Help) × (new ≡ old)
TakesMeaning meanings.Version old role new = (role ≡ roles.Version) × (new ≡ old)
TakesMeaning meanings.Files old role new = (role ≡ roles.Option) × (new ≡ record old { awaited = awaited.File })
TakesMeaning (meanings.Sets setting) old role new = (role ≡ roles.Option) × (new ≡ with_setting setting old)
TakesMeaning (meanings.Takes option) old role new = (role ≡ roles.Option) × (new ≡ record old { awaited = awaited.Value option })

-- No option has this name.
abbrev pub IsUnknown : Options → List ℕ → Word → Options → Type 0
IsUnknown old name role new = IsOption name None × (role ≡ roles.Wrong wrongs.UnknownOption) × (new ≡ old)

-- A word is the name of an option, or of none.
abbrev pub TakesOption : Options → List ℕ → Word → Options → Type 0
TakesOption old name role new =
    ((option : OptionName) × (name ≡ name_of option) × TakesMeaning (meaning_of option) old role new) ⊎ IsUnknown old name role new

-- A word has an option of this meaning and a value that begins at `start`.
abbrev pub TakesMeant : Meaning → ℕ → Options → List ℕ → Word → Options → Type 0
TakesMeant meanings.Help start old value role new = (role ≡ roles.Wrong wrongs.UnexpectedValue) × (new ≡ old)
TakesMeant meanings.Version start old value role new = (role ≡ roles.Wrong wrongs.UnexpectedValue) × (new ≡ old)
TakesMeant meanings.Files start old value role new = (role ≡ roles.Wrong wrongs.UnexpectedValue) × (new ≡ old)
TakesMeant (meanings.Sets setting) start old value role new = (role ≡ roles.Wrong wrongs.UnexpectedValue) × (new ≡ old)
TakesMeant (meanings.Takes option) start old value role new = TakesValue option start old value role new

-- A word is this name, a `=` and this value.
abbrev pub TakesWithValue : Options → List ℕ → List ℕ → Word → Options → Type 0
TakesWithValue old name value role new =
    ((option : OptionName) × (name ≡ name_of option) × TakesMeant (meaning_of option) (length name + 1) old value role new)
    ⊎ IsUnknown old name role new

-- A word is the name of a file, or an option, or an option with a value after its first `=`.
abbrev pub TakesAny : Options → List ℕ → Word → Options → Type 0
TakesAny old word role new = (IsFileName word × (role ≡ roles.File) × (new ≡ old))
    ⊎ (¬ (IsFileName word) × ((IsWithout 61 word × TakesOption old word role new)
    ⊎ ((name : List ℕ) × (value : List ℕ) × IsWithout 61 name × (word ≡ name ++ 61 ∷ value) × TakesWithValue old name value role new)))

-- This is what a word does if this is awaited.
abbrev pub TakesAwaited : Awaited → Options → List ℕ → Word → Options → Type 0
TakesAwaited awaited.Anything old word role new = TakesAny old word role new
TakesAwaited (awaited.Value option) old word role new = TakesValue option 0 old word role new
TakesAwaited awaited.File old word role new = (role ≡ roles.File) × (new ≡ old)

-- The word has this role, and these are the options after it. The words are counted, at most up to 2^64 - 1.
abbrev pub TakesWord : Options → List ℕ → Word → Options → Type 0
TakesWord old word role new = (taken : Options) × TakesAwaited old.awaited old word role taken
    × (new ≡ record taken { words = min (taken.words + 1) (2 ^ 64 - 1) })

-- ---- options that do not go together

-- The text of a line is one field.
abbrev pub is_one_field : Option Column → Bool
is_one_field None = false
is_one_field (Some (columns.After before)) = true
is_one_field (Some (columns.Named place)) = true
is_one_field (Some (columns.Between before more)) = false

-- The text of a line is several fields, which a byte other than a space separates.
abbrev pub joins_other_fields : Option Column → Option ℕ → Bool
joins_other_fields None separator = false
joins_other_fields (Some (columns.After before)) separator = false
joins_other_fields (Some (columns.Named place)) separator = false
joins_other_fields (Some (columns.Between before more)) None = false
joins_other_fields (Some (columns.Between before more)) (Some separator) = not (separator == 32)

-- This is the place of the name of a field, if `--field` has a name.
abbrev pub named_in : Option Column → Option FieldName
named_in None = None
named_in (Some (columns.After before)) = None
named_in (Some (columns.Named place)) = Some place
named_in (Some (columns.Between before more)) = None

-- Without `--kind`, the texts are of the kind `date-time`.
abbrev pub kind_in : Options → Kind
kind_in options = unwrap_or options.kind kinds.DateTime

-- The options do not go together, for this reason.
abbrev pub IsMisfit : Wrong → Options → Type 0
IsMisfit wrongs.UnknownOption options = ⊥
IsMisfit wrongs.UnexpectedValue options = ⊥
IsMisfit wrongs.MissingValue options = (option : Valued) × (options.awaited ≡ awaited.Value option)
IsMisfit wrongs.UnknownKind options = ⊥
IsMisfit wrongs.InvalidField options = ⊥
IsMisfit wrongs.NameWithoutHeader options = (named_in options.column ≢ None) × (options.skips.header ≡ false)
IsMisfit wrongs.InvalidSeparator options = ⊥
IsMisfit wrongs.InvalidComment options = ⊥
IsMisfit wrongs.InvalidCount options = ⊥
IsMisfit wrongs.UnknownFormat options = ⊥
IsMisfit wrongs.UnknownColor options = ⊥
IsMisfit wrongs.SeparatorWithoutField options = (options.separator ≢ None) × (options.column ≡ None)
IsMisfit wrongs.InvalidFields options = ⊥
IsMisfit wrongs.FieldsSeparator options = joins_other_fields options.column options.separator ≡ true
IsMisfit wrongs.CsvWithoutField options = (options.is_csv ≡ true) × (is_one_field options.column ≡ false)
IsMisfit wrongs.CsvSeparator options = (options.is_csv ≡ true) × (options.separator ≡ Some 34)
IsMisfit wrongs.OrderedKind options = (options.is_ordered ≡ true) × (instant_kind (kind_in options) ≡ None)
IsMisfit wrongs.OrderedCanonical options = (options.is_ordered ≡ true) × (options.is_canonical ≡ true)

-- This is a reason why the options do not go together. If it is `None`, there is no such reason.
abbrev pub IsMisfitOf : Options → Option Wrong → Type 0
IsMisfitOf options None = (wrong : Wrong) → ¬ (IsMisfit wrong options)
IsMisfitOf options (Some wrong) = IsMisfit wrong options

-- ---- what the options ask for

-- With `auto`, the reports have colours if the terminal shows them.
abbrev pub settled : Bool → Color → Color
settled shows_colors colors.Auto = if shows_colors then colors.Always else colors.Auto
settled shows_colors colors.Always = colors.Always
settled shows_colors colors.Never = colors.Never

-- Only reports as texts have colours.
abbrev pub format_with : Format → Color → Format
format_with formats.Text colors.Auto = formats.Text
format_with formats.Text colors.Always = formats.Coloured
format_with formats.Text colors.Never = formats.Text
format_with formats.Coloured color = formats.Coloured
format_with formats.Json color = formats.Json

-- This is the field after `before` others. Without `--separator`, the separator is a comma with `--csv`, and a tab otherwise.
abbrev pub field_after : Options → ℕ → Field
field_after options before = record {
  before = before;
  separator = unwrap_or options.separator (if options.is_csv then 44 else 9);
  extent = if options.is_csv then extents.Csv else extents.One;
}

-- These are the fields that are the text of a line, if the options have their numbers.
abbrev pub numbered : Options → Option Column → Option Field
numbered options None = None
numbered options (Some (columns.After before)) = Some (field_after options before)
numbered options (Some (columns.Named place)) = None
numbered options (Some (columns.Between before more)) = Some (record { before = before; separator = 32; extent = extents.More more })

abbrev pub ordered_task : Kind → Option InstantKind → Task
ordered_task kind None = tasks.Check kind
ordered_task kind (Some instant) = tasks.Order instant

abbrev pub task_of : Options → Task
task_of options = if options.is_canonical then tasks.Print (kind_in options)
    else (if options.is_ordered then ordered_task (kind_in options) (instant_kind (kind_in options)) else tasks.Check (kind_in options))

-- These lines are skipped. If it is `None`, no line is skipped.
abbrev pub AreSkips : Skips → Option Skips → Type 0
AreSkips skips None = skips ≡ no_options.skips
AreSkips skips (Some others) = others ≡ skips

-- This is the request for a file with this name.
pub record IsRequest (options : Options) (name : List ℕ) (request : Request) : Type 0 where
  pub named : request.name.now ≡ name
  pub task : request.task ≡ task_of options
  pub profile : request.profile ≡ (if options.is_strict then profiles.Strict else profiles.Crate)
  pub field : request.field ≡ numbered options options.column
  pub skips : AreSkips options.skips request.skips
  pub most_reports : request.most_reports ≡ unwrap_or options.most_reports (2 ^ 64 - 1)
  pub format : request.format ≡ format_with options.format options.color
  pub is_quiet : request.is_quiet ≡ options.is_quiet
