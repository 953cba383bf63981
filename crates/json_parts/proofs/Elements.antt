-- Elements of a list, one after another.
use Rattle.std.proofs.Common.{◌≡◌, ◌≤◌, ◌<◌, ◌+◌, ℕ, suc, List, ◌∷◌, ◌++◌, length, drop, get_or, Option, Some, None, option_map, refl, sym, ap, ◌∙◌, add-one, append_assoc, append-nil}
use Rattle.std.specs.Prelude.{codes}
use Rattle.std.proofs.lemmas.List.{drop_all, drop_more}
use Rattle.std.proofs.lemmas.Option.{same_Some}
use Rattle.gil_values.specs.Pieces.{separator_before}
use Rattle.serde_json.specs.Data.{Data, Items, item}
use Rattle.serde_json.specs.View.{items_view, view}
use Rattle.serde_json.specs.declared.value.Value.{Value}
use Rattle.value_text.specs.declared.faults.ReadFault.{ReadFault}
use Rattle.value_text.specs.declared.faults.ReadFault.TheVariants as faults
use Rattle.value_text.specs.Reading.{◌>>=◌, Fails}
use Rattle.json_parts.specs.Parts.{joined_from, leaf}

-- the elements from one on are it and those behind it
pub rest_begins : (items : List Value) (i : ℕ) (v : Value) → i < length items → v ≡ get_or items i v
    → items_view (drop i items) ≡ item (view v) (items_view (drop (i + 1) items))
rest_begins items i v lt is = ap items_view (drop_more items i v lt ∙ ap (λ w. w ∷ drop (i + 1) items) (sym is))

-- what is added, by parts
added : (o more : Option (List ℕ)) (before out mid new : List ℕ) → mid ≡ out ++ before → option_map (λ a. mid ++ a) o ≡ Some new
    → option_map (λ a. new ++ a) more ≡ option_map (λ a. out ++ a) (o >>= λ x. more >>= λ xs. Some (before ++ x ++ xs))
added None more before out mid new e f = absurd (cc f)
added (Some x) None before out mid new e f = refl
added (Some x) (Some xs) before out mid new e f =
    ap Some (ap (λ s. s ++ xs) (sym (same_Some (mid ++ x) new f) ∙ ap (λ s. s ++ x) e) ∙ simp append_assoc)

pub one_more : (d : Data) (ds : Items) (i : ℕ) (out mid new : List ℕ) → mid ≡ out ++ separator_before (codes ", ") i
    → option_map (λ a. mid ++ a) (leaf d) ≡ Some new
    → option_map (λ a. new ++ a) (joined_from (i + 1) ds) ≡ option_map (λ a. out ++ a) (joined_from i (item d ds))
unfolding joined_from
one_more d ds i out mid new e f = rw add-one (added (leaf d) (joined_from (suc i) ds) (separator_before (codes ", ") i) out mid new e f)

pub nothing : (out : List ℕ) (o : Option (List ℕ)) → None ≡ option_map (λ a. out ++ a) o → o ≡ None
nothing out None e = refl
nothing out (Some x) e = absurd (cc e)

-- an element that isn't read leaves nothing to be read
pub no_more : (fault : ReadFault) (d : Data) (ds : Items) (i : ℕ) (out start : List ℕ) (all : Option (List ℕ)) → Fails fault (leaf d)
    → option_map (λ a. out ++ a) (joined_from i (item d ds)) ≡ option_map (λ a. start ++ a) all → Fails fault all
unfolding joined_from
no_more faults.Memory d ds i out start all fails same = tt
no_more faults.Form d ds i out start all fails same =
    let none : joined_from i (item d ds) ≡ None = rw fails refl in
    nothing start all (sym (ap (option_map (λ a. out ++ a)) none) ∙ same)

pub ended : (items : List Value) (i : ℕ) (out : List ℕ) (all : Option (List ℕ)) → length items ≤ i
    → option_map (λ a. out ++ a) (joined_from i (items_view (drop i items))) ≡ all → all ≡ Some out
unfolding joined_from
ended items i out all past same =
    sym same ∙ ap (λ vs. option_map (λ a. out ++ a) (joined_from i (items_view vs))) (drop_all i items past) ∙ ap Some (append-nil out)
