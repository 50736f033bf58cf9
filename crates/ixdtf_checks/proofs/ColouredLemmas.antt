-- A report with colours, and the same report without them.
use Rattle.std.proofs.Common.{◌≡◌, ℕ, ◌+◌, ◌-◌, Bool, List, [], ◌∷◌, ◌++◌, length, take, drop, position, codes, Option, Some, None, refl, sym, ap, subst, ◌∙◌, append_assoc}
use Rattle.std.proofs.lemmas.{Grind.flat_map-append, List.{append-nil, take-append-drop}}
use Rattle.std.specs.List.{flat_map}
use Rattle.ixdtf_buffers.specs.Lines.{is_byte, newline}
use Rattle.ixdtf_checks.specs.{Coloured.{IsColoured, Piece.{shown, starts_bold, starts_red, ends}, bold, bold_red, but_last, coloured_hint, coloured_lines, coloured_marks, coloured_of, lines_with, marks_with, piece_bytes, piece_text, report_with}, Texts.{line_and_column, text_of}, Verdicts.{Cause, Refusal, Tells, hint_line}}
use Rattle.ixdtf_checks.specs.{declared.request.Format.TheVariants.{Coloured, Text}, Reports.{ColoursOnlyAdd, IsHintIn, IsRefusalReport}}

plain_marks : (place : Option ℕ) (marks : List ℕ) → marks_with (λ text. text) place marks ≡ marks
plain_marks None marks = refl
plain_marks (Some start) marks =
    ap (λ rest. take start marks ++ rest) (take-append-drop (length (drop start marks) - 1) (drop start marks)) ∙ take-append-drop start marks

plain_lines : (place : Option ℕ) (lines : List ℕ) → lines_with (λ text. text) place lines ≡ lines
plain_lines None lines = refl
plain_lines (Some place) lines =
    ap (λ rest. take (place + 1) lines ++ rest) (plain_marks (position (is_byte 94) (drop (place + 1) lines)) (drop (place + 1) lines))
    ∙ take-append-drop (place + 1) lines

plain_hint : (hint : Option (List ℕ)) → coloured_hint (λ text. text) hint ≡ hint_line hint
plain_hint None = refl
plain_hint (Some hint) = refl

-- Without its escape sequences, the report with colours is the report as a text.
pub plain_report : (name : List ℕ) (number : ℕ) (refusal : Refusal) (hint : Option (List ℕ)) → report_with (λ text. text) (λ text. text) name number refusal hint
    ≡ text_of name number refusal.column refusal.message (refusal.lines ++ hint_line hint)
plain_report name number refusal hint =
    ap (λ lines. (name ++ line_and_column number refusal.column) ++ (refusal.message ++ newline ∷ (lines ++ coloured_hint (λ text. text) hint)))
    (plain_lines (position (is_byte newline) refusal.lines) refusal.lines)
    ∙ ap (λ last. (name ++ line_and_column number refusal.column) ++ (refusal.message ++ newline ∷ (refusal.lines ++ last))) (plain_hint hint)
    ∙ append_assoc name (line_and_column number refusal.column) (refusal.message ++ newline ∷ (refusal.lines ++ hint_line hint))

-- ---- the pieces of a report

coloured_shown : (bytes : List ℕ) → IsColoured bytes bytes
coloured_shown bytes = (shown bytes ∷ [], sym (append-nil bytes), sym (append-nil bytes))

coloured_bold : (text : List ℕ) → IsColoured (bold text) text
coloured_bold text = (starts_bold ∷ shown text ∷ ends ∷ [], refl, sym (append-nil text))

coloured_red : (text : List ℕ) → IsColoured (bold_red text) text
coloured_red text = (starts_red ∷ shown text ∷ ends ∷ [], refl, sym (append-nil text))

coloured_then : (report more text rest : List ℕ) → IsColoured report text → IsColoured more rest → IsColoured (report ++ more) (text ++ rest)
coloured_then report more text rest (pieces, whole, plain) (others, also, as_well) = (
  pieces ++ others,
  ap (λ t. t ++ more) whole ∙ ap (λ t. flat_map piece_bytes pieces ++ t) also ∙ sym (flat_map-append piece_bytes pieces others),
  ap (λ t. t ++ rest) plain ∙ ap (λ t. flat_map piece_text pieces ++ t) as_well ∙ sym (flat_map-append piece_text pieces others),
)

abbrev same : List ℕ → List ℕ
same text = text

coloured_last : (marks : List ℕ) → IsColoured (but_last bold_red marks) (but_last same marks)
coloured_last marks =
    let first = take (length marks - 1) marks in
    let last = drop (length marks - 1) marks in
    coloured_then (bold_red first) last first last (coloured_red first) (coloured_shown last)

coloured_marks_with : (place : Option ℕ) (marks : List ℕ) → IsColoured (marks_with bold_red place marks) (marks_with same place marks)
coloured_marks_with None marks = coloured_shown marks
coloured_marks_with (Some start) marks =
    coloured_then (take start marks) (but_last bold_red (drop start marks)) (take start marks) (but_last same (drop start marks))
    (coloured_shown (take start marks)) (coloured_last (drop start marks))

coloured_lines_with : (place : Option ℕ) (lines : List ℕ) → IsColoured (lines_with bold_red place lines) (lines_with same place lines)
coloured_lines_with None lines = coloured_shown lines
coloured_lines_with (Some place) lines =
    let marks = drop (place + 1) lines in
    coloured_then (take (place + 1) lines) (coloured_marks bold_red marks) (take (place + 1) lines) (coloured_marks same marks)
    (coloured_shown (take (place + 1) lines)) (coloured_marks_with (position (is_byte 94) marks) marks)

coloured_hint_line : (hint : Option (List ℕ)) → IsColoured (coloured_hint bold hint) (coloured_hint same hint)
coloured_hint_line None = coloured_shown []
coloured_hint_line (Some hint) =
    let rest = codes " " ++ (hint ++ newline ∷ []) in
    coloured_then (bold (codes "hint:")) rest (codes "hint:") rest (coloured_bold (codes "hint:")) (coloured_shown rest)

-- Without its escape sequences, the report with colours is the report as a text.
coloured_report : (name : List ℕ) (number : ℕ) (refusal : Refusal) (hint : Option (List ℕ)) → IsColoured (coloured_of name number refusal hint)
    (text_of name number refusal.column refusal.message (refusal.lines ++ hint_line hint))
coloured_report name number refusal hint =
    let head = name ++ line_and_column number refusal.column in
    subst (λ text. IsColoured (coloured_of name number refusal hint) text) (plain_report name number refusal hint)
    (coloured_then (bold head) (refusal.message ++ newline ∷ (coloured_lines bold_red refusal.lines ++ coloured_hint bold hint))
    head (refusal.message ++ newline ∷ (coloured_lines same refusal.lines ++ coloured_hint same hint))
    (coloured_bold head)
    (coloured_then refusal.message (newline ∷ (coloured_lines bold_red refusal.lines ++ coloured_hint bold hint))
    refusal.message (newline ∷ (coloured_lines same refusal.lines ++ coloured_hint same hint))
    (coloured_shown refusal.message)
    (coloured_then (newline ∷ []) (coloured_lines bold_red refusal.lines ++ coloured_hint bold hint)
    (newline ∷ []) (coloured_lines same refusal.lines ++ coloured_hint same hint)
    (coloured_shown (newline ∷ []))
    (coloured_then (coloured_lines bold_red refusal.lines) (coloured_hint bold hint) (coloured_lines same refusal.lines) (coloured_hint same hint)
    (coloured_lines_with (position (is_byte newline) refusal.lines) refusal.lines) (coloured_hint_line hint)))))

-- Without its escape sequences, a report with colours is a report as a text of the same line.
pub only_add : ColoursOnlyAdd
only_add name number hinted cause report (refusal, hint, tells, is_hint, whole) = (
  text_of name number refusal.column refusal.message (refusal.lines ++ hint_line hint),
  (refusal, hint, tells, is_hint, refl),
  subst (λ r. IsColoured r (text_of name number refusal.column refusal.message (refusal.lines ++ hint_line hint))) (sym whole) (coloured_report name number refusal hint),
)

-- A report of a refused line is the report with colours of its refusal and of its hint, and the same report as a text.
pub reported : {P : List ℕ → Type 0} (name : List ℕ) (number : ℕ) (hinted : Bool) (cause : Cause) (refusal : Refusal) (hint : Option (List ℕ))
    → Tells cause refusal → IsHintIn hinted cause hint → P (coloured_of name number refusal hint)
    → (report : List ℕ) × (text : List ℕ) × IsRefusalReport Coloured name number hinted cause report × IsRefusalReport Text name number hinted cause text
    × IsColoured report text × P report
reported name number hinted cause refusal hint tells is_hint holds =
    (_, _, (refusal, hint, tells, is_hint, refl), (refusal, hint, tells, is_hint, refl), coloured_report name number refusal hint, holds)
