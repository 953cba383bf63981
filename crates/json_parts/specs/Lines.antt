-- The lines of a report from the parts of its objects, as functions: what the functions of src/lines.rt answer.
use Rattle.std.specs.Prelude.{ℕ, List, [], ◌∷◌, ◌++◌, Option, Some, None, bytes_eq, if◌then◌else◌, codes, option_map}
use Rattle.serde_json.specs.Data.{Data, Items, no_items, item}
use Rattle.serde_json.specs.Find.{get, as_array}
use Rattle.value_text.specs.Reading.{◌>>=◌}
use Rattle.json_parts.specs.Parts.{◌followed_by◌, part_at, text_at, is_marked}

-- ---- words and parts in turn

-- words, and the part with this key behind them
abbrev pub piece : Data → List ℕ × List ℕ → Option (List ℕ)
piece d p = option_map (λ x. p.0 ++ x) (part_at p.1 d)

unfoldable pub pieces : Data → List (List ℕ × List ℕ) → Option (List ℕ)
pieces d [] = Some []
pieces d (p ∷ ps) = piece d p followed_by pieces d ps

-- the same, and the last words
unfoldable pub line : Data → List (List ℕ × List ℕ) → List ℕ → Option (List ℕ)
line d ps last = pieces d ps followed_by Some last

-- ---- heads

unfoldable pub head_of : List ℕ → Data → Option (List ℕ)
head_of mode d =
    if bytes_eq (codes "check") mode then line d ((codes "gillian check ", codes "lang") ∷ (codes " bound ", codes "bound") ∷ []) (codes "\n")
    else (if bytes_eq (codes "solve") mode then line d [] (codes "gillian solve atoms\n")
    else (if bytes_eq (codes "sweep") mode then line d ((codes "gillian sweep ", codes "n") ∷ []) (codes "\n")
    else line d ((codes "gillian ", codes "mode") ∷ (codes " ", codes "lang") ∷ (codes " entry ", codes "entry") ∷ (codes " bound ", codes "bound") ∷ [])
    (codes "\n")))

abbrev pub head : Data → Option (List ℕ)
head d = text_at (codes "mode") d >>= λ mode. head_of mode d

-- ---- answers

-- words, and conditions that aren't decided behind them
unfoldable pub question : List ℕ → Data → Option (List ℕ)
question words d =
    line d
    ((words, codes "proc") ∷ (codes ":", codes "at") ∷ (codes " path ", codes "path") ∷ (codes " vars ", codes "vars")
    ∷ (codes " given ", codes "given") ∷ (codes " query ", codes "query") ∷ (codes " outside ", codes "outside") ∷ [])
    (codes "\n")

unfoldable pub unproved_question : Data → Option (List ℕ)
unproved_question d = part_at (codes "name") d followed_by question (codes " unproved unknown ") d

unfoldable pub unproved_why : List ℕ → Data → Option (List ℕ)
unproved_why why d =
    if bytes_eq (codes "fails") why then
    line d
    (([], codes "name") ∷ (codes " unproved fails ", codes "value") ∷ (codes " ", codes "proc") ∷ (codes ":", codes "at")
    ∷ (codes " path ", codes "path") ∷ (codes " with ", codes "with") ∷ [])
    (codes "\n")
    else (if bytes_eq (codes "unknown") why then unproved_question d
    else (if bytes_eq (codes "depends") why then line d (([], codes "name") ∷ (codes " unproved depends ", codes "on") ∷ []) (codes "\n")
    else
    line d
    (([], codes "name") ∷ (codes " unproved ", codes "why") ∷ (codes " ", codes "proc") ∷ (codes ":", codes "at")
    ∷ (codes " path ", codes "path") ∷ (codes " with ", codes "with") ∷ [])
    (codes "\n")))

abbrev pub unproved : Data → Option (List ℕ)
unproved d = text_at (codes "why") d >>= λ why. unproved_why why d

-- what stands behind a specification that was found
abbrev pub cut_mark : Data → List ℕ
cut_mark d = if is_marked (codes "cut") d then codes " cut\n" else codes "\n"

unfoldable pub specification_of : List ℕ → Data → Option (List ℕ)
specification_of kind d =
    if bytes_eq (codes "verified") kind then line d (([], codes "name") ∷ []) (codes " verified\n")
    else (if bytes_eq (codes "vacuous") kind then line d (([], codes "name") ∷ (codes " vacuous ", codes "proof") ∷ []) (codes "\n")
    else (if bytes_eq (codes "unproved") kind then unproved d
    else (if bytes_eq (codes "spec") kind then line d (([], codes "spec") ∷ []) (cut_mark d)
    else None)))

unfoldable pub verdict_of : List ℕ → Data → Option (List ℕ)
verdict_of kind d =
    if bytes_eq (codes "clean") kind then line d [] (codes "clean\n")
    else (if bytes_eq (codes "bug") kind then
    line d ((codes "bug ", codes "proc") ∷ (codes ":", codes "at") ∷ (codes " ", codes "value") ∷ (codes " inputs ", codes "inputs") ∷ []) (codes "\n")
    else (if bytes_eq (codes "unknown") kind then question (codes "unknown ") d
    else (if bytes_eq (codes "sat") kind then line d ((codes "sat ", codes "with") ∷ []) (codes "\n")
    else (if bytes_eq (codes "unsat") kind then line d ((codes "unsat ", codes "proof") ∷ []) (codes "\n")
    else (if bytes_eq (codes "unknown-atoms") kind then line d ((codes "unknown ", codes "outside") ∷ []) (codes "\n")
    else (if bytes_eq (codes "bytes") kind then line d ((codes "bytes ", codes "bytes") ∷ []) (codes "\n")
    else specification_of kind d))))))

unfoldable pub answer_of : List ℕ → Data → Option (List ℕ)
answer_of kind d =
    if bytes_eq (codes "returned") kind then line d ((codes "returned ", codes "value") ∷ []) (codes "\n")
    else (if bytes_eq (codes "failed") kind then
    line d ((codes "failed ", codes "value") ∷ (codes " ", codes "proc") ∷ (codes ":", codes "at") ∷ []) (codes "\n")
    else (if bytes_eq (codes "vanished") kind then line d [] (codes "vanished\n")
    else (if bytes_eq (codes "cut") kind then line d [] (codes "cut\n")
    else (if bytes_eq (codes "no-input") kind then line d ((codes "no input ", codes "draw") ∷ []) (codes "\n")
    else (if bytes_eq (codes "bad-input") kind then line d ((codes "bad input ", codes "draw") ∷ []) (codes "\n")
    else (if bytes_eq (codes "number") kind then line d ((codes "number ", codes "proc") ∷ (codes ":", codes "at") ∷ []) (codes "\n")
    else verdict_of kind d))))))

abbrev pub answer : Data → Option (List ℕ)
answer d = text_at (codes "kind") d >>= λ kind. answer_of kind d

unfoldable pub answers : Items → Option (List ℕ)
answers no_items = Some []
answers (item d ds) = answer d followed_by answers ds

abbrev pub list_of_answers : Data → Option (List ℕ)
list_of_answers d = as_array d >>= answers

abbrev pub answers_at : Data → Option (List ℕ)
answers_at d = get (codes "answers") d >>= list_of_answers

-- ---- reports

abbrev pub lines : Data → Option (List ℕ)
lines d = head d followed_by answers_at d
