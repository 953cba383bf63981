-- A program whose commands get other numbers has the same faults.
use Rattle.std.proofs.Common.{◌≡◌, ℕ, zero, suc, ◌+◌, Bool, true, false, not, ◌||◌, cond, List, [], ◌∷◌, ◌++◌, map, length, take, Some, slice_get, IsTrue, refl, sym, ap, ◌∙◌, subst}
use Rattle.std.specs.List.{list_any, flat_map, filter}
use Rattle.std.specs.Str.{bytes_eq}
use Rattle.std.proofs.lemmas.List.{map-append}
use Rattle.gil_syntax.specs.declared.validity.InvalidKind.{InvalidKind}
use Rattle.gil_syntax.specs.declared.validity.InvalidKind.TheVariants.{Duplicate, BadLabel, NoEnd, UnknownName, Arity, TooMany, Memory}
use Rattle.gil_syntax.specs.Pure.{PureCommand, PureNumberedCommand, PureProc, PureSpec, PurePredDef, PureParts}
use Rattle.gil_syntax.specs.Programs.{numbered_from, renumbered_proc, renumbered, find_proc, find_spec}
use Rattle.gil_syntax.specs.Valid.{ProgramItem, a_proc, a_spec, a_pred, items_of, lists_in_command, name_lists, same_list, same_name, is_core_name, is_bad_jump, has_bad_label, last_ends_body, has_no_end, logicals_of_spec, piece_of_command, pieces_of, is_of_no_procedure, differs_from, has_other_params, has_many_variables, is_large, has_fault, has_fault_if_there, fault_at, IsValid}

-- ---- bodies

abbrev commands : List PureNumberedCommand → List PureCommand
commands body = map (λ c. c.command) body

-- what goes over the commands of a body goes over them also where they have other numbers
flat_map-numbered : {X : Type 0} (f : PureCommand → List X) (n : ℕ) (body : List PureNumberedCommand)
    → flat_map (λ (c : PureNumberedCommand). f c.command) (numbered_from n (commands body)) ≡ flat_map (λ (c : PureNumberedCommand). f c.command) body
flat_map-numbered f n [] = refl
flat_map-numbered f n (c ∷ body) = ap (λ rest. f c.command ++ rest) (flat_map-numbered f (n + 1) body)

list_any-numbered : (test : PureCommand → Bool) (n : ℕ) (body : List PureNumberedCommand)
    → list_any (λ (c : PureNumberedCommand). test c.command) (numbered_from n (commands body)) ≡ list_any (λ (c : PureNumberedCommand). test c.command) body
list_any-numbered test n [] = refl
list_any-numbered test n (c ∷ body) = ap (λ rest. test c.command || rest) (list_any-numbered test (n + 1) body)

map-numbered : {X : Type 0} (f : PureCommand → X) (n : ℕ) (body : List PureNumberedCommand)
    → map (λ (c : PureNumberedCommand). f c.command) (numbered_from n (commands body)) ≡ map (λ (c : PureNumberedCommand). f c.command) body
map-numbered f n [] = refl
map-numbered f n (c ∷ body) = ap (λ rest. f c.command ∷ rest) (map-numbered f (n + 1) body)

length-numbered : (n : ℕ) (body : List PureNumberedCommand) → length (numbered_from n (commands body)) ≡ length body
length-numbered n [] = refl
length-numbered n (c ∷ body) = ap suc (length-numbered (n + 1) body)

last-numbered : (n : ℕ) (body : List PureNumberedCommand) → last_ends_body (numbered_from n (commands body)) ≡ last_ends_body body
last-numbered n [] = refl
last-numbered n (c ∷ []) = refl
last-numbered n (c ∷ d ∷ body) = last-numbered (n + 1) (d ∷ body)

-- ---- items

abbrev again : ProgramItem → ProgramItem
again (a_proc q) = a_proc (renumbered_proc q)
again (a_spec s) = a_spec s
again (a_pred d) = a_pred d

map-procs : (qs : List PureProc) → map a_proc (map renumbered_proc qs) ≡ map again (map a_proc qs)
map-procs [] = refl
map-procs (q ∷ qs) = ap (λ rest. a_proc (renumbered_proc q) ∷ rest) (map-procs qs)

map-specs : (ss : List PureSpec) → map a_spec ss ≡ map again (map a_spec ss)
map-specs [] = refl
map-specs (s ∷ ss) = ap (λ rest. a_spec s ∷ rest) (map-specs ss)

map-preds : (ds : List PurePredDef) → map a_pred ds ≡ map again (map a_pred ds)
map-preds [] = refl
map-preds (d ∷ ds) = ap (λ rest. a_pred d ∷ rest) (map-preds ds)

items-again : (p : PureParts) → items_of (renumbered p) ≡ map again (items_of p)
items-again p =
    (λ i. (map-procs p.procs i ++ map-specs p.specs i) ++ map-preds p.preds i)
    ∙ ap (λ front. front ++ map again (map a_pred p.preds)) (sym (map-append again (map a_proc p.procs) (map a_spec p.specs)))
    ∙ sym (map-append again (map a_proc p.procs ++ map a_spec p.specs) (map a_pred p.preds))

same_name-again : (a b : ProgramItem) → same_name (again a) (again b) ≡ same_name a b
same_name-again (a_proc q) (a_proc r) = refl
same_name-again (a_proc q) (a_spec s) = refl
same_name-again (a_proc q) (a_pred d) = refl
same_name-again (a_spec s) (a_proc r) = refl
same_name-again (a_spec s) (a_spec t) = refl
same_name-again (a_spec s) (a_pred d) = refl
same_name-again (a_pred d) (a_proc r) = refl
same_name-again (a_pred d) (a_spec s) = refl
same_name-again (a_pred d) (a_pred e) = refl

same_list-again : (a b : ProgramItem) → same_list (again a) (again b) ≡ same_list a b
same_list-again (a_proc q) (a_proc r) = refl
same_list-again (a_proc q) (a_spec s) = refl
same_list-again (a_proc q) (a_pred d) = refl
same_list-again (a_spec s) (a_proc r) = refl
same_list-again (a_spec s) (a_spec t) = refl
same_list-again (a_spec s) (a_pred d) = refl
same_list-again (a_pred d) (a_proc r) = refl
same_list-again (a_pred d) (a_spec s) = refl
same_list-again (a_pred d) (a_pred e) = refl

names-again : (item : ProgramItem) (before : List ProgramItem) → list_any (same_name (again item)) (map again before) ≡ list_any (same_name item) before
names-again item [] = refl
names-again item (b ∷ before) = (λ i. same_name-again item b i || names-again item before i)

cond_length : (b : Bool) (x y : ProgramItem) (xs ys : List ProgramItem) → length xs ≡ length ys → length (cond b (x ∷ xs) xs) ≡ length (cond b (y ∷ ys) ys)
cond_length true x y xs ys e = ap suc e
cond_length false x y xs ys e = e

lists-again : (item : ProgramItem) (before : List ProgramItem) → length (filter (same_list (again item)) (map again before)) ≡ length (filter (same_list item) before)
lists-again item [] = refl
lists-again item (b ∷ before) =
    ap (λ t. length (cond t (again b ∷ filter (same_list (again item)) (map again before)) (filter (same_list (again item)) (map again before)))) (same_list-again item b)
    ∙ cond_length (same_list item b) (again b) b _ _ (lists-again item before)

name_lists-again : (item : ProgramItem) → name_lists (again item) ≡ name_lists item
name_lists-again (a_proc q) = ap (λ rest. q.params ∷ rest) (flat_map-numbered lists_in_command 0 q.body)
name_lists-again (a_spec s) = refl
name_lists-again (a_pred d) = refl

core-again : (item : ProgramItem) → is_core_name (again item) ≡ is_core_name item
core-again (a_proc q) = refl
core-again (a_spec s) = refl
core-again (a_pred d) = refl

bad_label-again : (item : ProgramItem) → has_bad_label (again item) ≡ has_bad_label item
bad_label-again (a_proc q) =
    ap (λ n. list_any (λ (c : PureNumberedCommand). is_bad_jump n c.command) (numbered_from 0 (commands q.body))) (length-numbered 0 q.body)
    ∙ list_any-numbered (is_bad_jump (length q.body)) 0 q.body
bad_label-again (a_spec s) = refl
bad_label-again (a_pred d) = refl

no_end-again : (item : ProgramItem) → has_no_end (again item) ≡ has_no_end item
no_end-again (a_proc q) = ap not (last-numbered 0 q.body)
no_end-again (a_spec s) = refl
no_end-again (a_pred d) = refl

large-again : (item : ProgramItem) → is_large (again item) ≡ is_large item
large-again (a_proc q) = rw (length-numbered 0 q.body, list_any-numbered has_many_variables 0 q.body) refl
large-again (a_spec s) = refl
large-again (a_pred d) = refl

-- ---- what an item says of the whole program

pieces-again : (p : PureParts) (item : ProgramItem) → pieces_of (renumbered p) (again item) ≡ pieces_of p item
pieces-again p (a_proc q) = map-numbered (piece_of_command (logicals_of_spec (find_spec p.specs q.name))) 0 q.body
pieces-again p (a_spec s) = refl
pieces-again p (a_pred d) = refl

proc_names : (qs : List PureProc) → map (λ (q : PureProc). q.name) (map renumbered_proc qs) ≡ map (λ (q : PureProc). q.name) qs
proc_names [] = refl
proc_names (q ∷ qs) = ap (λ rest. q.name ∷ rest) (proc_names qs)

no_procedure-again : (p : PureParts) (item : ProgramItem) → is_of_no_procedure (renumbered p) (again item) ≡ is_of_no_procedure p item
no_procedure-again p (a_proc q) = refl
no_procedure-again p (a_spec s) = ap (λ names. not (list_any (bytes_eq s.name) names)) (proc_names p.procs)
no_procedure-again p (a_pred d) = refl

differs-again : (qs : List PureProc) (s : PureSpec) (f : List ℕ) → differs_from (find_proc (map renumbered_proc qs) f) s ≡ differs_from (find_proc qs f) s
differs-again [] s f = refl
differs-again (q ∷ qs) s f =
    elim (bytes_eq q.name f) as (λ b. differs_from (cond b (Some (renumbered_proc q)) (find_proc (map renumbered_proc qs) f)) s ≡ differs_from (cond b (Some q) (find_proc qs f)) s) [
      | true ↦ refl
      | false ↦ differs-again qs s f
    ]

params-again : (p : PureParts) (item : ProgramItem) → has_other_params (renumbered p) (again item) ≡ has_other_params p item
params-again p (a_proc q) = refl
params-again p (a_spec s) = differs-again p.procs s s.name
params-again p (a_pred d) = refl

-- ---- faults

fault-again : (kind : InvalidKind) (p : PureParts) (before : List ProgramItem) (item : ProgramItem) → has_fault kind (renumbered p) (map again before) (again item) ≡ has_fault kind p before item
fault-again Duplicate p before item = rw (names-again item before, core-again item, name_lists-again item) refl
fault-again BadLabel p before item = bad_label-again item
fault-again NoEnd p before item = no_end-again item
fault-again UnknownName p before item = rw (no_procedure-again p item, pieces-again p item) refl
fault-again Arity p before item = rw (params-again p item, pieces-again p item) refl
fault-again TooMany p before item = rw (lists-again item before, large-again item, pieces-again p item) refl
fault-again Memory p before item = refl

take-map : (n : ℕ) (items : List ProgramItem) → take n (map again items) ≡ map again (take n items)
take-map zero items = refl
take-map (suc n) [] = refl
take-map (suc n) (item ∷ items) = ap (λ rest. again item ∷ rest) (take-map n items)

there-again : (kind : InvalidKind) (p : PureParts) (before : List ProgramItem) (items : List ProgramItem) (i : ℕ)
    → has_fault_if_there kind (renumbered p) (map again before) (slice_get (map again items) i) ≡ has_fault_if_there kind p before (slice_get items i)
there-again kind p before [] i = refl
there-again kind p before (item ∷ items) zero = fault-again kind p before item
there-again kind p before (item ∷ items) (suc i) = there-again kind p before items i

fault_at-again : (p : PureParts) (kind : InvalidKind) (i : ℕ) → fault_at (renumbered p) kind i ≡ fault_at p kind i
fault_at-again p kind i =
    ap (λ items. has_fault_if_there kind (renumbered p) (take i items) (slice_get items i)) (items-again p)
    ∙ ap (λ before. has_fault_if_there kind (renumbered p) before (slice_get (map again (items_of p)) i)) (take-map i (items_of p))
    ∙ there-again kind p (take i (items_of p)) (items_of p) i

pub renumbered_valid : (p : PureParts) → IsValid p → IsValid (renumbered p)
renumbered_valid p valid kind i fault = valid kind i (subst IsTrue (fault_at-again p kind i) fault)
