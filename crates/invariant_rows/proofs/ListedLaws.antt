-- Names that an invariant lists, on terms and on values.
use Rattle.std.proofs.Common.{◌≡◌, ℕ, ◌+◌, List, [], ◌∷◌, drop, Bool, true, false, not, ◌&&◌, ◌||◌, cond, Option, Some, None, is_some, IsSome, slice_get, refl, sym, ap, subst, ◌∙◌, true≢false}
use Rattle.std.specs.Str.{bytes_eq}
use Rattle.std.proofs.lemmas.Bool.{and_parts}
use Rattle.gil_values.specs.Pure.{PureValue}
use Rattle.gil_syntax.specs.Evaluation.{Store, value_of}
use Rattle.gil_syntax.specs.Valid.{is_among}
use Rattle.gil_machine.proofs.Standings.{drop-found}
use Rattle.checked_runs.specs.Checked.{has_all, unlisted_in}
use Rattle.pure_terms.specs.Pure.{PureTerm}
use Rattle.sym_evaluation.specs.Meaning.{AreSame, StandsFor}
use Rattle.sym_evaluation.specs.Pure.{PureBinding, PureStore, term_at}
use Rattle.sym_model.proofs.ListLaws.{not_none}
use Rattle.sym_states.proofs.Names.{names_same}
use Rattle.sym_paths.specs.Meaning.{OfEachName}
use Rattle.checked_rows.proofs.BelowLaws.{kept_value, other_value, some_kept}
use Rattle.invariant_rows.specs.Listed.{have_terms, AreUnlisted, KeepsUnlisted}

-- ---- the store without the names

-- one binding more
pub keep_more : (xs : List (List ℕ)) (bs before after : PureStore) (n : ℕ) (b : PureBinding) → slice_get bs n ≡ Some b → AreUnlisted xs (drop (n + 1) bs) before → KeepsUnlisted xs b before after → AreUnlisted xs (drop n bs) after
keep_more xs bs before after n b at so_far keeps y =
    keeps y ∙ by (is_among xs b.name) (bytes_eq b.name y) refl refl ∙ ap (λ cs. cond (is_among xs y) None (term_at cs y)) (sym (drop-found bs n b at))
  where
    by : (l e : Bool) → is_among xs b.name ≡ l → bytes_eq b.name y ≡ e
        → cond l (term_at before y) (cond e (Some b.term) (term_at before y)) ≡ cond (is_among xs y) None (cond e (Some b.term) (term_at (drop (n + 1) bs) y))
    by true true listed same =
        let there : is_among xs y ≡ true = ap (is_among xs) (sym (names_same b.name y same)) ∙ listed in
        so_far y ∙ ap (λ l. cond l None (term_at (drop (n + 1) bs) y)) there ∙ sym (ap (λ l. cond l None (Some b.term)) there)
    by true false listed other = so_far y
    by false true isnt same = sym (ap (λ l. cond l None (Some b.term)) (ap (is_among xs) (sym (names_same b.name y same)) ∙ isnt))
    by false false isnt other = so_far y

-- what is left of what was left has the same terms
pub unlisted_twice : (xs : List (List ℕ)) (bs cs ds : PureStore) → AreUnlisted xs bs cs → AreUnlisted xs cs ds → AreUnlisted xs bs ds
unlisted_twice xs bs cs ds first second y = second y ∙ by (is_among xs y) refl
  where
    by : (l : Bool) → is_among xs y ≡ l → cond l None (term_at cs y) ≡ cond l None (term_at bs y)
    by true is = refl
    by false is = first y ∙ ap (λ l. cond l None (term_at bs y)) is

pub unlisted_each : (P : PureTerm → Type 0) (xs : List (List ℕ)) (bs cs : PureStore) → AreUnlisted xs bs cs → OfEachName P bs → OfEachName P cs
unlisted_each P xs bs cs unlisted all x t is = by (is_among xs x) (sym (unlisted x) ∙ is)
  where
    by : (l : Bool) → cond l None (term_at bs x) ≡ Some t → P t
    by true none = not_none none
    by false there = all x t there

-- ---- values

pub isnt_listed : (xs : List (List ℕ)) (y : List ℕ) → is_among xs y ≡ false → not (is_among xs y) ≡ true
isnt_listed xs y is = ap (λ b. not b) is

pub unlisted_value : (xs : List (List ℕ)) (s : Store) (y : List ℕ) → is_among xs y ≡ false → value_of (unlisted_in xs s) y ≡ value_of s y
unlisted_value xs s y is = kept_value (λ z. not (is_among xs z)) s y (isnt_listed xs y is)

pub listed_value : (xs : List (List ℕ)) (s : Store) (y : List ℕ) → is_among xs y ≡ true → value_of (unlisted_in xs s) y ≡ None
listed_value xs s y is = other_value (λ z. not (is_among xs z)) s y (ap (λ b. not b) is)

pub unlisted_some : (xs : List (List ℕ)) (s : Store) (y : List ℕ) (w : PureValue) → value_of (unlisted_in xs s) y ≡ Some w → value_of s y ≡ Some w
unlisted_some xs s y w is = (some_kept (λ z. not (is_among xs z)) s y w is).1

-- the terms of the names that aren't listed have their values
pub unlisted_stand : (xs : List (List ℕ)) (bs cs : PureStore) (v : List PureValue) (s : Store) → AreUnlisted xs bs cs → StandsFor v bs s → StandsFor v cs (unlisted_in xs s)
unlisted_stand xs bs cs v s unlisted stands y = by (is_among xs y) refl
  where
    by : (l : Bool) → is_among xs y ≡ l → AreSame v (term_at cs y) (value_of (unlisted_in xs s) y)
    by true listed =
        subst (λ o. AreSame v o (value_of (unlisted_in xs s) y)) (sym (unlisted y ∙ ap (λ l. cond l None (term_at bs y)) listed))
        (subst (AreSame v None) (sym (listed_value xs s y listed)) tt)
    by false isnt =
        subst (λ o. AreSame v o (value_of (unlisted_in xs s) y)) (sym (unlisted y ∙ ap (λ l. cond l None (term_at bs y)) isnt))
        (subst (AreSame v (term_at bs y)) (sym (unlisted_value xs s y isnt)) (stands y))

-- ---- listed names have values

same_some_ness : (v : List PureValue) (o : Option PureTerm) (u : Option PureValue) → AreSame v o u → is_some o ≡ is_some u
same_some_ness v (Some t) (Some w) same = refl
same_some_ness v None None same = refl
same_some_ness v (Some t) None same = absurd same
same_some_ness v None (Some w) same = absurd same

-- where each has a term each has a value
pub all_have_values : (xs : List (List ℕ)) (v : List PureValue) (bs : PureStore) (s : Store) → StandsFor v bs s → have_terms xs bs ≡ has_all xs s
all_have_values [] v bs s stands = refl
all_have_values (x ∷ xs) v bs s stands = λ i. same_some_ness v (term_at bs x) (value_of s x) (stands x) i && all_have_values xs v bs s stands i

pub one_has_value : (xs : List (List ℕ)) (s : Store) (y : List ℕ) → has_all xs s ≡ true → is_among xs y ≡ true → IsSome (value_of s y)
one_has_value [] s y all among = absurd (true≢false (sym among))
one_has_value (x ∷ xs) s y all among =
    let (first, rest) = and_parts (is_some (value_of s x)) (has_all xs s) all in
    by first rest (one_has_value xs s y rest) (bytes_eq y x) refl among
  where
    by : is_some (value_of s x) ≡ true → has_all xs s ≡ true → (is_among xs y ≡ true → IsSome (value_of s y)) → (e : Bool) → bytes_eq y x ≡ e → (e || is_among xs y) ≡ true → IsSome (value_of s y)
    by first rest later true same any = ap (λ z. is_some (value_of s z)) (names_same y x same) ∙ first
    by first rest later false other any = later any

-- a value of a name that has one
pub some_value : (o : Option PureValue) → IsSome o → (w : PureValue) × (o ≡ Some w)
some_value (Some w) is = (w, refl)
some_value None is = absurd (true≢false (sym is))
