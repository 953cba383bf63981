-- The functions of a program with that which reads properties, and their procedures.
use Rattle.std.proofs.Common.{◌≡◌, ◌⊎◌, inl, inr, ℕ, List, [], ◌∷◌, ◌++◌, Bool, true, false, cond, Option, Some, None, map, refl, sym, ap, ◌∙◌, true≢false}
use Rattle.std.specs.List.{list_all}
use Rattle.std.specs.Option.{option_map}
use Rattle.std.specs.Str.{bytes_eq}
use Rattle.std.proofs.lemmas.Bool.{and_parts}
use Rattle.gil_syntax.specs.Pure.{PureProc}
use Rattle.gil_syntax.specs.Programs.{find_proc}
use Rattle.source_language.specs.Names.{is_source_name}
use Rattle.source_language.specs.Pure as trees
use Rattle.source_language.specs.Pure.{find_function}
use Rattle.source_language.proofs.Ends as ends
use Rattle.source_language.proofs.Ends.{KeepsHead}
use Rattle.source_language.proofs.Stores.{other_name}
use Rattle.object_operators.specs.Library.{get_proc}
use Rattle.object_operators.specs.Walk.{get_name}
use Rattle.object_lang.specs.Meaning.{PureBody, statements, reads_property, of_statements, get_function, with_library}
use Rattle.object_lang.specs.Names.{is_source_function}
use Rattle.object_lang.specs.Pure.{PureFunction, PureSource}
use Rattle.object_lang.specs.Resolved.{resolved}
use Rattle.object_compiler.specs.Compiled.{compiled_function, compiled}

-- the procedure of a function by its body
abbrev pub procedure_by : PureBody → trees.PureFunction PureBody → PureProc
procedure_by (statements b) f = compiled_function (record { name = f.name; params = f.params; body = b; at = f.at })
procedure_by reads_property f = record { name = f.name; params = f.params; body = get_proc.body }

abbrev pub procedure : trees.PureFunction PureBody → PureProc
procedure f = procedure_by f.body f

name_kept : (b : PureBody) (f : trees.PureFunction PureBody) → (procedure_by b f).name ≡ f.name
name_kept (statements b) f = refl
name_kept reads_property f = refl

params_kept : (b : PureBody) (f : trees.PureFunction PureBody) → (procedure_by b f).params ≡ f.params
params_kept (statements b) f = refl
params_kept reads_property f = refl

pub keeps_head : KeepsHead procedure
keeps_head = record { name = λ f. name_kept f.body f; params = λ f. params_kept f.body f }

pub procedures_of : (fs : List PureFunction) → map procedure (map of_statements fs ++ get_function ∷ []) ≡ map compiled_function fs ++ get_proc ∷ []
procedures_of [] = refl
procedures_of (f ∷ fs) = ap (λ ps. compiled_function f ∷ ps) (procedures_of fs)

-- ---- which function is found

abbrev pub IsFound : Option PureFunction → trees.PureFunction PureBody → Type 0
IsFound o h = (h ≡ get_function) ⊎ ((k : PureFunction) × (h ≡ of_statements k) × (o ≡ Some k))

same_some : {X : Type 0} (x y : X) → Some x ≡ Some y → x ≡ y
same_some x y e = cc

last_found : (b : Bool) (h : trees.PureFunction PureBody) → cond b (Some get_function) None ≡ Some h → h ≡ get_function
last_found true h is = sym (same_some get_function h is)
last_found false h is = absurd (cc)

found_choice : (b : Bool) (k : PureFunction) (o : Option PureFunction) (r : Option (trees.PureFunction PureBody)) (h : trees.PureFunction PureBody)
    → cond b (Some (of_statements k)) r ≡ Some h → (r ≡ Some h → IsFound o h) → IsFound (cond b (Some k) o) h
found_choice true k o r h is later = inr (k, sym (same_some (of_statements k) h is), refl)
found_choice false k o r h is later = later is

pub function_found : (fs : List PureFunction) (g : List ℕ) (h : trees.PureFunction PureBody)
    → find_function (map of_statements fs ++ get_function ∷ []) g ≡ Some h → IsFound (find_function fs g) h
function_found [] g h is = inl (last_found (bytes_eq get_name g) h is)
function_found (k ∷ fs) g h is = found_choice (bytes_eq k.name g) k (find_function fs g) _ h is (function_found fs g h)

other_found : (b : Bool) (k : PureFunction) (r : Option (trees.PureFunction PureBody)) → b ≡ false → r ≡ Some get_function
    → cond b (Some (of_statements k)) r ≡ Some get_function
other_found b k r other is = ap (λ c. cond c (Some (of_statements k)) r) other ∙ is

-- no function of a text has the name of that which reads properties
pub library_found : (fs : List PureFunction) → list_all (λ f. is_source_function f) fs ≡ true
    → find_function (map of_statements fs ++ get_function ∷ []) get_name ≡ Some get_function
library_found [] named = refl
library_found (k ∷ fs) named =
    let parts = and_parts (is_source_function k) (list_all (λ f. is_source_function f) fs) named in
    let name = (and_parts (is_source_name k.name) _ parts.0).0 in
    other_found (bytes_eq k.name get_name) k _ (other_name k.name get_name (λ same. true≢false (sym name ∙ ap is_source_name same)))
    (library_found fs parts.1)

-- ---- the procedures of a program

module _ (source : PureSource) where
  pub same_found : (f : List ℕ) → find_proc (compiled source).procs f ≡ option_map procedure (find_function (with_library source).functions f)
  same_found f =
      ap (λ ps. find_proc ps f) (sym (procedures_of (resolved source).functions))
      ∙ ends.same_found procedure keeps_head (with_library source).functions f

  pub found_proc : (g : List ℕ) (h : trees.PureFunction PureBody) → find_function (with_library source).functions g ≡ Some h
      → find_proc (compiled source).procs h.name ≡ Some (procedure h)
  found_proc = ends.found_proc procedure keeps_head (with_library source) (compiled source) same_found

  pub library_proc : list_all (λ f. is_source_function f) (resolved source).functions ≡ true → find_proc (compiled source).procs get_name ≡ Some get_proc
  library_proc named = found_proc get_name get_function (library_found (resolved source).functions named)
