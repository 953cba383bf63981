-- Procedures beside their names.
use Rattle.std.proofs.Common.{◌≡◌, ℕ, List, [], ◌∷◌, ◌++◌, map, Bool, true, false, cond, Option, Some, None, refl, sym, ap, ◌∙◌, append_assoc, Bor}
use Rattle.std.specs.Map.{lookup}
use Rattle.std.proofs.lemmas.List.{map-append}
use Rattle.std.specs.Option.{option_map, option_copied}
use Rattle.std.specs.Str.{bytes_eq}
use Rattle.gil_syntax.specs.declared.parts.Parts.{Parts}
use Rattle.gil_syntax.specs.declared.parts.Proc.{Proc}
use Rattle.gil_syntax.specs.Programs.{find_proc}
use Rattle.gil_syntax.specs.Valid.{is_among, has_twice}
use Rattle.gil_syntax.specs.View.{proc_view, spec_view, pred_def_view, parts_view}
use Rattle.indexmap.proofs.CallerLemmas.{insert_entry-new}
use Rattle.indexmap.specs.IndexMap.{IndexMap, insert_entry}
use Rattle.gil_syntax.specs.Parts.{parts_seen}
use Rattle.gil_syntax.proofs.ByNameLemmas.{map-seen}
use Rattle.gil_syntax.proofs.NameLemmas.{bytes_eq-sym, has_twice-push, has_twice-longer}
use Rattle.gil_syntax.proofs.PieceLemmas.{either_false}

abbrev names_and : List (List ℕ × Proc) → List (List ℕ)
names_and es = map (λ e. e.1.name) es

-- the procedure that the table has for a name
lookup-find : (es : List (List ℕ × Proc)) (x : List ℕ) → map (λ e. e.0) es ≡ names_and es → option_map proc_view (lookup (bytes_eq x) es) ≡ find_proc (map (λ e. proc_view e.1) es) x
lookup-find [] x named = refl
lookup-find (e ∷ es) x named =
    let first : e.0 ≡ e.1.name = cc in
    let rest : map (λ d. d.0) es ≡ names_and es = cc in
    ap (λ b. option_map proc_view (cond b (Some e.1) (lookup (bytes_eq x) es))) (ap (bytes_eq x) first ∙ bytes_eq-sym x e.1.name)
    ∙ by (bytes_eq e.1.name x) (lookup-find es x rest)
  where
    by : (b : Bool) → option_map proc_view (lookup (bytes_eq x) es) ≡ find_proc (map (λ d. proc_view d.1) es) x
        → option_map proc_view (cond b (Some e.1) (lookup (bytes_eq x) es)) ≡ cond b (Some (proc_view e.1)) (find_proc (map (λ d. proc_view d.1) es) x)
    by true rest = refl
    by false rest = rest

copied-map : (r : Option (Bor Proc)) → option_map (λ q. proc_view q.now) r ≡ option_map proc_view (option_copied r)
copied-map None = refl
copied-map (Some q) = refl

-- what was lent for a name
pub lent-find : (es : List (List ℕ × Proc)) (x : List ℕ) (r : Option (Bor Proc)) → map (λ e. e.0) es ≡ names_and es → option_copied r ≡ lookup (bytes_eq x) es
    → option_map (λ q. proc_view q.now) r ≡ find_proc (map (λ e. proc_view e.1) es) x
lent-find es x r named is = copied-map r ∙ ap (option_map proc_view) is ∙ lookup-find es x named

abbrev names_of : List Proc → List (List ℕ)
names_of qs = map (λ q. q.name) qs

absent : (qs : List Proc) (x : List ℕ) → is_among (names_of qs) x ≡ false → lookup (bytes_eq x) (map (λ q. (q.name, q)) qs) ≡ None
absent [] x isnt = refl
absent (q ∷ qs) x isnt =
    let parts = either_false (bytes_eq x q.name) (is_among (names_of qs) x) isnt in
    ap (λ b. cond b (Some q) (lookup (bytes_eq x) (map (λ r. (r.name, r)) qs))) parts.0 ∙ absent qs x parts.1

not_longer : (xs ys : List (List ℕ)) → has_twice (xs ++ ys) ≡ false → has_twice xs ≡ false
not_longer xs ys once = by (has_twice xs) refl
  where
    by : (b : Bool) → has_twice xs ≡ b → b ≡ false
    by true e = sym (has_twice-longer xs ys e) ∙ once
    by false e = refl

-- where no name stands twice, that of the next procedure is new
pub next_is_new : (procs done rest : List Proc) (q : Proc) → has_twice (names_of procs) ≡ false → procs ≡ (done ++ q ∷ []) ++ rest → lookup (bytes_eq q.name) (map (λ r. (r.name, r)) done) ≡ None
next_is_new procs done rest q once is =
    let split : names_of procs ≡ (names_of done ++ q.name ∷ []) ++ names_of rest =
    ap names_of is ∙ map-append (λ r. r.name) (done ++ q ∷ []) rest ∙ ap (λ xs. xs ++ names_of rest) (map-append (λ r. r.name) done (q ∷ [])) in
    let front : has_twice (names_of done ++ q.name ∷ []) ≡ false = not_longer (names_of done ++ q.name ∷ []) (names_of rest) (ap has_twice (sym split) ∙ once) in
    absent done q.name (either_false (is_among (names_of done) q.name) (has_twice (names_of done)) (sym (has_twice-push (names_of done) q.name) ∙ front)).0

abbrev beside : List Proc → List (List ℕ × Proc)
beside qs = map (λ q. (q.name, q)) qs

-- one procedure more
pub made_more : {S : Type 0} (m : IndexMap (List ℕ) Proc S) (es : List (List ℕ × Proc)) (done : List Proc) (q : Proc) (name : List ℕ)
    → es ≡ insert_entry bytes_eq m.entries name q → name ≡ q.name → m.entries ≡ beside done → lookup (bytes_eq q.name) (beside done) ≡ None → es ≡ beside (done ++ q ∷ [])
made_more m es done q name inserts named made new =
    let none : lookup (bytes_eq name) m.entries ≡ None = (λ j. lookup (bytes_eq (named j)) (made j)) ∙ new in
    inserts ∙ insert_entry-new bytes_eq m name q none ∙ (λ j. made j ++ (named j, q) ∷ []) ∙ sym (map-append (λ r. (r.name, r)) done (q ∷ []))

pub read_more : (procs done old new : List Proc) (q : Proc) → procs ≡ done ++ old → old ≡ q ∷ new → procs ≡ (done ++ q ∷ []) ++ new
read_more procs done old new q is step = is ∙ ap (λ xs. done ++ xs) step ∙ sym (append_assoc done (q ∷ []) new)

-- a table made of the procedures
pub beside_named : (es : List (List ℕ × Proc)) (qs : List Proc) → es ≡ beside qs → map (λ e. e.0) es ≡ names_and es
beside_named es qs made = ap (map (λ e. e.0)) made ∙ map-seen (λ q. (q.name, q)) (λ e. e.0) qs ∙ sym (map-seen (λ q. (q.name, q)) (λ e. e.1.name) qs) ∙ ap names_and (sym made)

pub beside_seen : (es : List (List ℕ × Proc)) (parts : Parts) → es ≡ beside parts.procs → parts_seen es parts.specs parts.preds ≡ parts_view parts
beside_seen es parts made =
    ap (λ ds. parts_seen ds parts.specs parts.preds) made
    ∙ ap (λ ps. record { procs = ps; specs = map spec_view parts.specs; preds = map pred_def_view parts.preds }) (map-seen (λ q. (q.name, q)) (λ e. proc_view e.1) parts.procs)
