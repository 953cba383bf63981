-- Alternatives tell where what is left isn't as it was before.
use Rattle.std.proofs.Common.{◌≡◌, ⊎_elim, inl, inr, ℕ, zero, suc, ◌+◌, ◌-◌, ◌<◌, ◌≤◌, List, [], ◌∷◌, ◌++◌, drop, take, map, get_or, slice_get, length, Bool, true, false, cond, Option, Some, None, is_some, IsSome, IsTrue, refl, sym, ap, subst, ◌∙◌, true≢false, arith}
use Rattle.std.specs.Str.{bytes_eq}
use Rattle.std.proofs.lemmas.List.{take_more, map-append}
use Rattle.std.proofs.lemmas.Slice.Eq.{bytes_eq-Decides}
use Rattle.std.specs.FinMap.{get, get-empty, remove, len, len-empty, len-remove, contains_key, empty_of_len}
use Rattle.gil_values.specs.EqualityLaws.{same_elements-Decides}
use Rattle.gil_values.specs.Pure.{PureValue, integer, text, symbol}
use Rattle.gil_syntax.specs.Evaluation.{Store, value_of}
use Rattle.mem_model.specs.declared.cores.Core.{Core}
use Rattle.mem_model.specs.declared.keys.Key.{Key}
use Rattle.mem_model.specs.CoreNames.{core_of}
use Rattle.mem_model.specs.Cores.{entry_of, entry_named, core_entry}
use Rattle.mem_model.specs.Heaps.{Heap, Holds}
use Rattle.mem_model.specs.Keys.{key_cmp}
use Rattle.mem_model.specs.KeyOrder.{key_cmp-total}
use Rattle.gil_machine.proofs.Standings.{drop-found}
use Rattle.assert_logic.proofs.LoopLemmas.{none_left}
use Rattle.assert_logic.specs.LogicStates.{Fact}
use Rattle.checked_runs.specs.Checked.{AreSame as AreSameValues, unlisted_in}
use Rattle.pure_terms.specs.declared.variables.Sort.{Sort}
use Rattle.pure_terms.specs.Meaning.{value, values, both, all_true, IsProper, IsOver}
use Rattle.pure_terms.specs.Pure.{PureTerm, from_list}
use Rattle.sym_model.specs.Alternatives.{Alternatives}
use Rattle.sym_evaluation.specs.Meaning.{AreSame, HaveValues}
use Rattle.sym_evaluation.specs.declared.store.Binding.{Binding}
use Rattle.sym_evaluation.specs.Pure.{PureBinding, PureStore, term_at}
use Rattle.sym_evaluation.specs.View.{binding_view, bindings_view}
use Rattle.sym_matching.specs.Matching.{TestsElements, ElementsStayOver}
use Rattle.sym_matching.specs.Meaning.{AreConditions}
use Rattle.sym_matching.specs.Pure.{PureTest}
use Rattle.sym_model.proofs.ListLaws.{same_some, not_none, each_append, each_left, each_right, each_to, one_left, one_right, one_parts}
use Rattle.sym_model.specs.Listing.{IsUse, AreUnion}
use Rattle.sym_model.specs.Lists.{Each, OneOf, IsAmong}
use Rattle.sym_model.specs.declared.uses.CoreUse.{CoreUse}
use Rattle.sym_model.specs.Pure.{PureUse}
use Rattle.sym_model.specs.View.{use_view, uses_view}
use Rattle.sym_model.specs.Terms.{StateTerms, all_of, AreEachOver}
use Rattle.sym_states.specs.Meaning.{IsFact, AreFacts}
use Rattle.sym_states.specs.declared.states.PredChunk.{PredChunk}
use Rattle.sym_states.specs.Pure.{PureFact}
use Rattle.sym_states.specs.View.{fact_view, facts_view}
use Rattle.checked_paths.specs.Pure.{PurePassed}
use Rattle.invariant_rows.specs.Differing.{PureDifference, Tells, TellsIfClear, TellsTerms, TellsFact, TellsFacts, TellsName, TellsNames, TellsStores, AreUsesOver, TellsHeaps, TellsNext, HoldsOne, HaveSameKey, IsTermOfKey, TellsDifference}
use Rattle.invariant_rows.proofs.RemainderLaws.{same_with, one_entry}

-- ---- alternatives

module _ (v : List PureValue) where
  pub tells_both : {P Q R : Type 0} (x y : Alternatives) → Tells v x P → Tells v y Q → (R → P) → (R → Q) → (P → Q → R) → Tells v (x ++ y) R
  tells_both x y first second left right all = record {
    otherwise = λ holds r. ⊎_elim (λ h. first.otherwise h (left r)) (λ h. second.otherwise h (right r)) (one_parts (λ conds. IsTrue (all_true v conds)) x y holds);
    cover = ⊎_elim (λ h. inl (one_left (λ conds. IsTrue (all_true v conds)) x y h)) (λ p. ⊎_elim (λ h. inl (one_right (λ conds. IsTrue (all_true v conds)) x y h)) (λ q. inr (all p q)) second.cover) first.cover;
  }

  pub tells_never : {P : Type 0} → P → Tells v [] P
  tells_never is = record { otherwise = λ holds p. holds; cover = inr is }

  pub tells_always : {P : Type 0} → ¬ P → Tells v ([] ∷ []) P
  tells_always isnt = record { otherwise = λ holds. isnt; cover = inl (inl refl) }

-- ---- values

pub terms_tell : (ss ts : List PureTerm) (test : PureTest) → TestsElements ss ts test → ElementsStayOver ss ts test → TellsTerms ss ts test.otherwise
terms_tell ss ts test tests over vars left right = (
  (over vars left right).otherwise,
  λ v us ws proper have have_too.
      let says = tests vars v us ws proper left right have have_too in
      record {
        otherwise = λ holds same. true≢false (sym ((same_elements-Decides us ws).1 same) ∙ says.otherwise holds);
        cover = ⊎_elim (λ met. inr ((same_elements-Decides us ws).0 (says.when met))) inl says.cover;
      },
)

-- ---- facts

pub facts_of_name : (c d : PureFact) (x y : Alternatives) → c.pred ≡ d.pred → TellsTerms c.ins d.ins x → TellsTerms c.outs d.outs y → TellsFact c d (x ++ y)
facts_of_name c d x y same ins outs vars left right =
    let of_ins = ins vars (each_left (IsOver vars) c.ins c.outs left) (each_left (IsOver vars) d.ins d.outs right) in
    let of_outs = outs vars (each_right (IsOver vars) c.ins c.outs left) (each_right (IsOver vars) d.ins d.outs right) in (
      each_append (AreConditions vars) x y of_ins.0 of_outs.0,
      λ v f g proper is is_too.
          tells_both v x y (of_ins.1 v f.ins g.ins proper is.ins is_too.ins) (of_outs.1 v f.outs g.outs proper is.outs is_too.outs) (λ e. ap (λ (k : Fact). k.ins) e) (λ e. ap (λ (k : Fact). k.outs) e)
          (λ p q. let pred : f.pred ≡ g.pred = sym is.pred ∙ same ∙ is_too.pred in λ i. record { pred = pred i; ins = p i; outs = q i }),
    )

pub facts_of_others : (c d : PureFact) → ¬ (c.pred ≡ d.pred) → TellsFact c d ([] ∷ [])
facts_of_others c d other vars left right =
    ((tt, tt), λ v f g proper is is_too. tells_always v (λ e. other (is.pred ∙ ap (λ (k : Fact). k.pred) e ∙ sym is_too.pred)))

pub no_facts : TellsFacts [] [] []
no_facts vars left right = (tt, there)
  where
    there : (v : List PureValue) (fs gs : List Fact) → IsProper vars v → AreFacts v [] fs → AreFacts v [] gs → Tells v [] (fs ≡ gs)
    there v [] [] proper are are_too = tells_never v refl
    there v (f ∷ fs) gs proper are are_too = absurd are
    there v [] (g ∷ gs) proper are are_too = absurd are_too

as_many : (v : List PureValue) (cs : List PureFact) (fs : List Fact) → AreFacts v cs fs → length fs ≡ length cs
as_many v [] [] are = refl
as_many v (c ∷ cs) (f ∷ fs) are = ap suc (as_many v cs fs are.1)
as_many v [] (f ∷ fs) are = absurd are
as_many v (c ∷ cs) [] are = absurd are

pub more_facts : (cs ds : List PureFact) → ¬ (length cs ≡ length ds) → TellsFacts cs ds ([] ∷ [])
more_facts cs ds other vars left right =
    ((tt, tt), λ v fs gs proper are are_too. tells_always v (λ e. other (sym (as_many v cs fs are) ∙ ap length e ∙ as_many v ds gs are_too)))

heads : (f g : Fact) (fs gs : List Fact) → f ∷ fs ≡ g ∷ gs → f ≡ g
heads f g fs gs same = cc

tails : (f g : Fact) (fs gs : List Fact) → f ∷ fs ≡ g ∷ gs → fs ≡ gs
tails f g fs gs same = cc

pub next_facts : (c d : PureFact) (cs ds : List PureFact) (later here : Alternatives) → TellsFacts cs ds later → TellsFact c d here → TellsFacts (c ∷ cs) (d ∷ ds) (later ++ here)
next_facts c d cs ds later here rest one vars left right =
    let of_rest = rest vars left.1 right.1 in
    let of_one = one vars left.0 right.0 in
    (each_append (AreConditions vars) later here of_rest.0 of_one.0, there of_rest.1 of_one.1)
  where
    there : ((v : List PureValue) (fs gs : List Fact) → IsProper vars v → AreFacts v cs fs → AreFacts v ds gs → Tells v later (fs ≡ gs)) → ((v : List PureValue) (f g : Fact) → IsProper vars v → IsFact v c f → IsFact v d g → Tells v here (f ≡ g))
        → (v : List PureValue) (fs gs : List Fact) → IsProper vars v → AreFacts v (c ∷ cs) fs → AreFacts v (d ∷ ds) gs → Tells v (later ++ here) (fs ≡ gs)
    there of_rest of_one v (f ∷ fs) (g ∷ gs) proper are are_too =
        tells_both v later here (of_rest v fs gs proper are.1 are_too.1) (of_one v f g proper are.0 are_too.0) (tails f g fs gs) (heads f g fs gs) (λ p q. λ i. q i ∷ p i)
    there of_rest of_one v [] gs proper are are_too = absurd are
    there of_rest of_one v (f ∷ fs) [] proper are are_too = absurd are_too

-- ---- stores

module _ (bs cs : PureStore) where
  one_value : (v : List PureValue) (t : PureTerm) (w : PureValue) → value v t ≡ Some w → HaveValues v (t ∷ []) (w ∷ [])
  one_value v t w is = ap (λ o. both o (Some [])) is

  alone : (u w : PureValue) → u ∷ [] ≡ w ∷ [] → u ≡ w
  alone u w same = cc

  pub name_in_both : (y : List ℕ) (s t : PureTerm) (x : Alternatives) → term_at bs y ≡ Some s → term_at cs y ≡ Some t → TellsTerms (s ∷ []) (t ∷ []) x → TellsName bs cs y x
  name_in_both y s t x at at_too tells vars left right =
      let of_terms = tells vars (left y s at, tt) (right y t at_too, tt) in
      (of_terms.0, λ f g h proper stands stands_too. by f (value_of g y) (value_of h y) (of_terms.1 f) proper (subst (λ o. AreSame f o (value_of g y)) at (stands y)) (subst (λ o. AreSame f o (value_of h y)) at_too (stands_too y)))
    where
      by : (v : List PureValue) (a b : Option PureValue) → ((us ws : List PureValue) → IsProper vars v → HaveValues v (s ∷ []) us → HaveValues v (t ∷ []) ws → Tells v x (us ≡ ws)) → IsProper vars v → AreSame v (Some s) a → AreSame v (Some t) b → Tells v x (a ≡ b)
      by v (Some a) (Some b) of_terms proper is is_too =
          let told = of_terms (a ∷ []) (b ∷ []) proper (one_value v s a is) (one_value v t b is_too) in
          record { otherwise = λ holds same. told.otherwise holds (ap (λ u. u ∷ []) (same_some same)); cover = ⊎_elim inl (λ same. inr (ap Some (alone a b same))) told.cover }
      by v None b of_terms proper is is_too = absurd is
      by v (Some a) None of_terms proper is is_too = absurd is_too

  one_not_other : (v : List PureValue) (s : PureTerm) (a b : Option PureValue) → AreSame v (Some s) a → AreSame v None b → ¬ (a ≡ b)
  one_not_other v s (Some a) None is isnt same = not_none (sym same)
  one_not_other v s None b is isnt same = is
  one_not_other v s (Some a) (Some b) is isnt same = isnt

  pub name_in_first : (y : List ℕ) (s : PureTerm) → term_at bs y ≡ Some s → term_at cs y ≡ None → TellsName bs cs y ([] ∷ [])
  name_in_first y s at none vars left right = (
    (tt, tt),
    λ v g h proper stands stands_too. tells_always v
        (one_not_other v s (value_of g y) (value_of h y) (subst (λ o. AreSame v o (value_of g y)) at (stands y)) (subst (λ o. AreSame v o (value_of h y)) none (stands_too y))),
  )

  pub name_in_second : (y : List ℕ) (t : PureTerm) → term_at bs y ≡ None → term_at cs y ≡ Some t → TellsName bs cs y ([] ∷ [])
  name_in_second y t none at vars left right = (
    (tt, tt),
    λ v g h proper stands stands_too. tells_always v
        (λ same. one_not_other v t (value_of h y) (value_of g y) (subst (λ o. AreSame v o (value_of h y)) at (stands_too y)) (subst (λ o. AreSame v o (value_of g y)) none (stands y)) (sym same)),
  )

  no_values : (v : List PureValue) (a b : Option PureValue) → AreSame v None a → AreSame v None b → a ≡ b
  no_values v None None is is_too = refl
  no_values v (Some a) b is is_too = absurd is
  no_values v None (Some b) is is_too = absurd is_too

  pub name_in_none : (y : List ℕ) → term_at bs y ≡ None → term_at cs y ≡ None → TellsName bs cs y []
  name_in_none y none none_too vars left right = (
    tt,
    λ v g h proper stands stands_too. tells_never v
        (no_values v (value_of g y) (value_of h y) (subst (λ o. AreSame v o (value_of g y)) none (stands y)) (subst (λ o. AreSame v o (value_of h y)) none_too (stands_too y))),
  )

  pub no_names : TellsNames bs cs [] []
  no_names vars left right = (tt, λ v s t proper stands stands_too. tells_never v tt)

  pub next_names : (names : PureStore) (b : PureBinding) (x here : Alternatives) → TellsNames bs cs names x → TellsName bs cs b.name here → TellsNames bs cs (names ++ b ∷ []) (x ++ here)
  next_names names b x here so_far one vars left right =
      let before = so_far vars left right in
      let now = one vars left right in (
        each_append (AreConditions vars) x here before.0 now.0,
        λ v s t proper stands stands_too.
            let Same : PureBinding → Type 0 = λ (k : PureBinding). value_of s k.name ≡ value_of t k.name in
            tells_both v x here (before.1 v s t proper stands stands_too) (now.1 v s t proper stands stands_too) (each_left Same names (b ∷ [])) (λ all. (each_right Same names (b ∷ []) all).0) (λ all is. each_append Same names (b ∷ []) all (is, tt)),
      )

  each_named : (s t : Store) (names : PureStore) (y : List ℕ) (k : PureTerm) → Each (λ b. value_of s b.name ≡ value_of t b.name) names → term_at names y ≡ Some k → value_of s y ≡ value_of t y
  each_named s t [] y k all at = not_none at
  each_named s t (b ∷ names) y k all at = by (bytes_eq b.name y) refl (each_named s t names y k all.1)
    where
      by : (e : Bool) → bytes_eq b.name y ≡ e → (term_at names y ≡ Some k → value_of s y ≡ value_of t y) → value_of s y ≡ value_of t y
      by true is later = subst (λ z. value_of s z ≡ value_of t z) ((bytes_eq-Decides b.name y).0 is) all.0
      by false is later = later (sym (ap (λ e. cond e (Some b.term) (term_at names y)) is) ∙ at)

  pub all_names : (x y : Alternatives) → TellsNames bs cs bs x → TellsNames bs cs cs y → TellsStores bs cs (x ++ y)
  all_names x y first second vars left right =
      let of_first = first vars left right in
      let of_second = second vars left right in (
        each_append (AreConditions vars) x y of_first.0 of_second.0,
        λ v s t proper stands stands_too.
            tells_both v x y (of_first.1 v s t proper stands stands_too) (of_second.1 v s t proper stands stands_too) (λ same. everywhere s t bs same) (λ same. everywhere s t cs same)
            (λ all all_too z. by v s t all all_too z (term_at bs z) (term_at cs z) refl refl (stands z) (stands_too z)),
      )
    where
      everywhere : (s t : Store) (names : PureStore) → AreSameValues s t → Each (λ b. value_of s b.name ≡ value_of t b.name) names
      everywhere s t [] same = tt
      everywhere s t (b ∷ names) same = (same b.name, everywhere s t names same)

      by : (v : List PureValue) (s t : Store) → Each (λ b. value_of s b.name ≡ value_of t b.name) bs → Each (λ b. value_of s b.name ≡ value_of t b.name) cs → (z : List ℕ) (a b : Option PureTerm) → term_at bs z ≡ a → term_at cs z ≡ b
          → AreSame v (term_at bs z) (value_of s z) → AreSame v (term_at cs z) (value_of t z) → value_of s z ≡ value_of t z
      by v s t all all_too z (Some a) b at at_too is is_too = each_named s t bs z a all at
      by v s t all all_too z None (Some b) at at_too is is_too = each_named s t cs z b all_too at_too
      by v s t all all_too z None None at at_too is is_too = no_values v (value_of s z) (value_of t z) (subst (λ o. AreSame v o (value_of s z)) at is) (subst (λ o. AreSame v o (value_of t z)) at_too is_too)

-- ---- heaps

pub no_uses : TellsHeaps [] [] (record { alternatives = []; unclear = None })
no_uses vars left right = (tt, tt, λ v g h proper are are_too. record { otherwise = λ holds same. holds; cover = λ none. inr (are ∙ sym are_too); has_value = λ t is. not_none is })

has_key : (h : Heap) (k : Key) (w : PureValue) → Holds h k w → contains_key h k ≡ true
has_key h k w holds = ap is_some holds

one_key_less : (n : ℕ) (h : Heap) (k : Key) (w : PureValue) → len h ≡ n → Holds h k w → n ≡ suc (len (remove h k))
one_key_less zero h k w counted holds = not_none (sym (get-empty key_cmp k) ∙ ap (λ (g : Heap). get g k) (sym (empty_of_len h counted)) ∙ holds)
one_key_less (suc n) h k w counted holds =
    let less : len (remove h k) ≡ len h - 1 = len-remove key_cmp-total h k ∙ ap (λ b. cond b (len h - 1) (len h)) (has_key h k w holds) in
    omega (arith, less, counted)

keys_of : (v : List PureValue) (us : List PureUse) (h : Heap) → AreUnion v us h → len h ≡ length us
keys_of v [] h are = ap len are ∙ len-empty key_cmp PureValue
keys_of v (u ∷ us) h (k, (w, (is, holds, rest))) = one_key_less (len h) h k w refl holds ∙ ap suc (keys_of v us (remove h k) rest)

pub more_uses : (us ts : List PureUse) → ¬ (length us ≡ length ts) → TellsHeaps us ts (record { alternatives = [] ∷ []; unclear = None })
more_uses us ts other vars left right = (
  (tt, tt),
  tt,
  λ v g h proper are are_too. record {
    otherwise = λ holds same. other (sym (keys_of v us g are) ∙ ap len same ∙ keys_of v ts h are_too);
    cover = λ none. inl (inl refl);
    has_value = λ t is. not_none is;
  },
)

-- the same use first
pub next_same : (u t : PureUse) (d : PureDifference) → u ≡ t → TellsNext u t d d
next_same u t d same us ts later vars left right =
    let of_later = later vars left.1 right.1 in
    (of_later.0, of_later.1, λ v g h proper are are_too. by of_later.2 v g h proper are (subst (λ q. AreUnion v (q ∷ ts) h) (sym same) are_too))
  where
    by : ((v : List PureValue) (g h : Heap) → IsProper vars v → AreUnion v us g → AreUnion v ts h → TellsIfClear v d (g ≡ h)) → (v : List PureValue) (g h : Heap) → IsProper vars v → AreUnion v (u ∷ us) g → AreUnion v (u ∷ ts) h → TellsIfClear v d (g ≡ h)
    by of_later v g h proper (k, (w, (is, holds, rest))) (l, (z, (is_too, holds_too, rest_too))) =
        let (key, val) = one_entry v u k l w z is is_too in
        let told = of_later v (remove g k) (remove h l) proper rest rest_too in
        let there : Holds h k w = subst (λ j. Holds h j w) (sym key) (subst (Holds h l) (sym val) holds_too) in
        record {
          otherwise = λ hold same. told.otherwise hold (ap (λ (q : Heap). remove q k) same ∙ ap (λ j. remove h j) key);
          cover = λ clear. ⊎_elim inl (λ same. inr (same_with g h k w holds there (same ∙ ap (λ j. remove h j) (sym key)))) (told.cover clear);
          has_value = told.has_value;
        }

-- a use whose key is another one
pub next_unclear : (u t : PureUse) (d : PureDifference) (k : PureTerm) → IsTermOfKey u k → TellsNext u t d (record { alternatives = []; unclear = Some k })
next_unclear u t d k of_key us ts later vars left right = (tt, is_over of_key, λ v g h proper are are_too. by v g are)
  where
    one_over : (ks : List PureTerm) → AreEachOver vars ks → OneOf (λ s. s ≡ k) ks → IsOver vars k
    one_over [] over one = absurd one
    one_over (s ∷ ks) over (inl here) = subst (IsOver vars) here over.0
    one_over (s ∷ ks) over (inr later) = one_over ks over.1 later

    is_over : IsTermOfKey u k → IsOver vars k
    is_over (inl one) = one_over u.ins (each_left (IsOver vars) u.ins u.outs left.0) one
    is_over (inr literal) = subst (IsOver vars) (sym literal) (λ x (i, less, at). absurd (omega (arith, less)))

    first_value : (o : Option PureValue) (os : Option (List PureValue)) (ws : List PureValue) → both o os ≡ Some ws → IsSome o
    first_value (Some a) os ws is = refl
    first_value None os ws is = not_none is

    rest_values : (o : Option PureValue) (os : Option (List PureValue)) (ws : List PureValue) → both o os ≡ Some ws → (us : List PureValue) × (os ≡ Some us)
    rest_values (Some a) (Some us) ws is = (us, refl)
    rest_values (Some a) None ws is = not_none is
    rest_values None os ws is = not_none is

    one_has : (v : List PureValue) (ks more : List PureTerm) (ws : List PureValue) → values v (from_list (ks ++ more)) ≡ Some ws → OneOf (λ s. s ≡ k) ks → IsSome (value v k)
    one_has v [] more ws have one = absurd one
    one_has v (s ∷ ks) more ws have (inl here) = subst (λ q. IsSome (value v q)) here (first_value (value v s) (values v (from_list (ks ++ more))) ws have)
    one_has v (s ∷ ks) more ws have (inr later) = let (us, rest) = rest_values (value v s) (values v (from_list (ks ++ more))) ws have in one_has v ks more us rest later

    defined : (v : List PureValue) (l : Key) (w : PureValue) → IsUse v u l w → IsTermOfKey u k → IsSome (value v k)
    defined v l w is (inl one) = one_has v u.ins u.outs is.ws is.have one
    defined v l w is (inr literal) = subst (λ q. IsSome (value v q)) (sym literal) refl

    by : (v : List PureValue) (g : Heap) {P : Type 0} → AreUnion v (u ∷ us) g → TellsIfClear v (record { alternatives = []; unclear = Some k }) P
    by v g (l, (w, (is, holds, rest))) = record {
      otherwise = λ hold p. hold;
      cover = λ none. not_none (sym none);
      has_value = λ q same. subst (λ r. IsSome (value v r)) (same_some same) (defined v l w is of_key);
    }

-- ---- a use of the same key, with one out

record InParts (v : List PureValue) (ks more : List PureTerm) (ws : List PureValue) : Type 0 where
  first : List PureValue
  second : List PureValue
  have_first : HaveValues v ks first
  have_second : HaveValues v more second
  whole : ws ≡ first ++ second

in_parts : (v : List PureValue) (ks more : List PureTerm) (ws : List PureValue) → values v (from_list (ks ++ more)) ≡ Some ws → InParts v ks more ws
in_parts v [] more ws have = record { first = []; second = ws; have_first = refl; have_second = have; whole = refl }
in_parts v (k ∷ ks) more ws have = by (value v k) (values v (from_list (ks ++ more))) refl refl have (in_parts v ks more)
  where
    by : (o : Option PureValue) (os : Option (List PureValue)) → value v k ≡ o → values v (from_list (ks ++ more)) ≡ os → both o os ≡ Some ws
        → ((us : List PureValue) → values v (from_list (ks ++ more)) ≡ Some us → InParts v ks more us) → InParts v (k ∷ ks) more ws
    by (Some a) (Some us) at at_rest is later =
        let rest = later us at_rest in
        record {
          first = a ∷ rest.first;
          second = rest.second;
          have_first = ap (λ o. both o (values v (from_list ks))) at ∙ ap (both (Some a)) rest.have_first;
          have_second = rest.have_second;
          whole = sym (same_some is) ∙ ap (λ q. a ∷ q) rest.whole;
        }
    by (Some a) None at at_rest is later = not_none is
    by None os at at_rest is later = not_none is

count : (v : List PureValue) (ks : List PureTerm) (ws : List PureValue) → HaveValues v ks ws → length ws ≡ length ks
count v [] ws have = ap length (sym (same_some have))
count v (k ∷ ks) ws have = by (value v k) (values v (from_list ks)) refl have (count v ks)
  where
    by : (o : Option PureValue) (os : Option (List PureValue)) → values v (from_list ks) ≡ os → both o os ≡ Some ws → ((us : List PureValue) → HaveValues v ks us → length us ≡ length ks) → length ws ≡ suc (length ks)
    by (Some a) (Some us) at is later = ap length (sym (same_some is)) ∙ ap suc (later us at)
    by (Some a) None at is later = not_none is
    by None os at is later = not_none is

one_alone : {A : Type 0} (xs : List A) → length xs ≡ 1 → (x : A) × (xs ≡ x ∷ [])
one_alone [] is = absurd (omega (arith, is))
one_alone (x ∷ []) is = (x, refl)
one_alone (x ∷ y ∷ xs) is = absurd (omega (arith, is))

-- the last value is that of the key, which the others say
abbrev IsLast : Option (Key × PureValue) → (PureValue → Option (Key × PureValue)) → PureValue → Type 0
IsLast o other a = (k : Key) (w : PureValue) → o ≡ Some (k, w) → (w ≡ a) × ((b : PureValue) → other b ≡ Some (k, b))

found_last : (k : Key) (a : PureValue) → IsLast (Some (k, a)) (λ b. Some (k, b)) a
found_last k a l w is =
    let same = same_some is in
    (ap (λ (e : Key × PureValue). e.1) (sym same), λ b. ap (λ (j : Key). Some (j, b)) (ap (λ (e : Key × PureValue). e.0) same))

entry_last : (core : Core) (i : List PureValue) (a : PureValue) → 0 < length i → IsLast (entry_of core (i ++ a ∷ [])) (λ b. entry_of core (i ++ b ∷ [])) a
entry_last core [] a more k w is = absurd (omega (arith, more))
entry_last Core.Prop (symbol l ∷ text p ∷ []) a more k w is = found_last _ a k w is
entry_last Core.Prop (symbol l ∷ []) (text p) more k w is = not_none is
entry_last Core.Prop (symbol l ∷ text p ∷ c ∷ []) a more k w is = not_none is
entry_last Core.Prop (symbol l ∷ text p ∷ c ∷ d ∷ i) a more k w is = not_none is
entry_last Core.Cell (symbol l ∷ integer n ∷ []) a more k w is = found_last _ a k w is
entry_last Core.Cell (symbol l ∷ []) (integer n) more k w is = not_none is
entry_last Core.Cell (symbol l ∷ integer n ∷ c ∷ []) a more k w is = not_none is
entry_last Core.Cell (symbol l ∷ integer n ∷ c ∷ d ∷ i) a more k w is = not_none is
entry_last Core.Shape (symbol l ∷ []) a more k w is = found_last _ a k w is
entry_last Core.Shape (symbol l ∷ c ∷ []) a more k w is = not_none is
entry_last Core.Shape (symbol l ∷ c ∷ d ∷ i) a more k w is = not_none is
entry_last Core.Bound (symbol l ∷ []) a more k w is = found_last _ a k w is
entry_last Core.Bound (symbol l ∷ c ∷ []) a more k w is = not_none is
entry_last Core.Bound (symbol l ∷ c ∷ d ∷ i) a more k w is = not_none is
entry_last Core.Dom (symbol l ∷ []) a more k w is = found_last _ a k w is
entry_last Core.Dom (symbol l ∷ c ∷ []) a more k w is = not_none is
entry_last Core.Dom (symbol l ∷ c ∷ d ∷ i) a more k w is = not_none is
entry_last Core.Proto (symbol l ∷ []) a more k w is = found_last _ a k w is
entry_last Core.Proto (symbol l ∷ c ∷ []) a more k w is = not_none is
entry_last Core.Proto (symbol l ∷ c ∷ d ∷ i) a more k w is = not_none is
entry_last Core.Gone (symbol l ∷ []) a more k w is = not_none is
entry_last Core.Gone (symbol l ∷ c ∷ i) a more k w is = not_none is
entry_last core i a more k w is = not_none is

named_last : (o : Option Core) (i : List PureValue) (a : PureValue) → 0 < length i → IsLast (entry_named o (i ++ a ∷ [])) (λ b. entry_named o (i ++ b ∷ [])) a
named_last (Some core) i a more k w is = entry_last core i a more k w is
named_last None i a more k w is = not_none is

record SaysValue (v : List PureValue) (u : PureUse) (k : Key) (w : PureValue) : Type 0 where
  ins : List PureValue
  out : PureValue
  have_ins : HaveValues v u.ins ins
  have_out : HaveValues v u.outs (out ∷ [])
  some_ins : 0 < length ins
  entry : core_entry u.core (ins ++ out ∷ []) ≡ Some (k, w)

says_value : (v : List PureValue) (u : PureUse) (k : Key) (w : PureValue) → HoldsOne u → IsUse v u k w → SaysValue v u k w
says_value v u k w (some, one) is =
    let parts = in_parts v u.ins u.outs is.ws is.have in
    let counted = count v u.ins parts.first parts.have_first in
    let (out, alone) = one_alone parts.second (count v u.outs parts.second parts.have_second ∙ one) in
    record {
      ins = parts.first;
      out = out;
      have_ins = parts.have_first;
      have_out = parts.have_second ∙ ap Some alone;
      some_ins = omega (arith, some, counted);
      entry = ap (core_entry u.core) (sym (parts.whole ∙ ap (λ q. parts.first ++ q) alone)) ∙ is.entry;
    }

pub next_key : (u t : PureUse) (d : PureDifference) (x : Alternatives) → HaveSameKey u t → TellsTerms u.outs t.outs x → TellsNext u t d (record { alternatives = d.alternatives ++ x; unclear = d.unclear })
next_key u t d x key tells us ts later vars left right =
    let of_later = later vars left.1 right.1 in
    let of_outs = tells vars (each_right (IsOver vars) u.ins u.outs left.0) (each_right (IsOver vars) t.ins t.outs right.0) in
    (each_append (AreConditions vars) d.alternatives x of_later.0 of_outs.0, of_later.1, by of_later.2 of_outs.1)
  where
    by : ((v : List PureValue) (g h : Heap) → IsProper vars v → AreUnion v us g → AreUnion v ts h → TellsIfClear v d (g ≡ h)) → ((v ws zs : List PureValue) → IsProper vars v → HaveValues v u.outs ws → HaveValues v t.outs zs → Tells v x (ws ≡ zs))
        → (v : List PureValue) (g h : Heap) → IsProper vars v → AreUnion v (u ∷ us) g → AreUnion v (t ∷ ts) h → TellsIfClear v (record { alternatives = d.alternatives ++ x; unclear = d.unclear }) (g ≡ h)
    by of_later of_outs v g h proper (k, (w, (is, holds, rest))) (l, (z, (is_too, holds_too, rest_too))) =
        let one = says_value v u k w key.first is in
        let two = says_value v t l z key.second is_too in
        let ins : one.ins ≡ two.ins = same_some (sym one.have_ins ∙ (ap (λ q. values v (from_list q)) key.ins ∙ two.have_ins)) in
        let last = named_last (core_of u.core) one.ins one.out one.some_ins k w one.entry in
        let entry : Some (k, two.out) ≡ Some (l, z) = sym (last.1 two.out) ∙ (ap (λ q. core_entry u.core (q ++ two.out ∷ [])) ins ∙ (ap (λ q. core_entry q (two.ins ++ two.out ∷ [])) key.core ∙ two.entry)) in
        let same_key : k ≡ l = ap (λ (e : Key × PureValue). e.0) (same_some entry) in
        let of_second : two.out ≡ z = ap (λ (e : Key × PureValue). e.1) (same_some entry) in
        let told = of_later v (remove g k) (remove h l) proper rest rest_too in
        let outs = of_outs v (one.out ∷ []) (two.out ∷ []) proper one.have_out two.have_out in
        record {
          otherwise = λ hold same. ⊎_elim
              (λ first. told.otherwise first (ap (λ (q : Heap). remove q k) same ∙ ap (λ j. remove h j) same_key))
              (λ second. outs.otherwise second
              (ap (λ q. q ∷ []) (sym last.0 ∙ (same_some (sym holds ∙ (ap (λ (q : Heap). get q k) same ∙ (ap (λ j. get h j) same_key ∙ holds_too))) ∙ sym of_second))))
              (one_parts (λ conds. IsTrue (all_true v conds)) d.alternatives x hold);
          cover = λ clear. ⊎_elim
              (λ first. inl (one_left (λ conds. IsTrue (all_true v conds)) d.alternatives x first))
              (λ same. ⊎_elim
              (λ second. inl (one_right (λ conds. IsTrue (all_true v conds)) d.alternatives x second))
              (λ values_same.
              let value_same : w ≡ z = last.0 ∙ (alone_out one.out two.out values_same ∙ of_second) in
              let there : Holds h k w = subst (λ j. Holds h j w) (sym same_key) (subst (Holds h l) (sym value_same) holds_too) in
              inr (same_with g h k w holds there (same ∙ ap (λ j. remove h j) (sym same_key))))
              outs.cover)
              (told.cover clear);
          has_value = told.has_value;
        }
      where
        alone_out : (a b : PureValue) → a ∷ [] ≡ b ∷ [] → a ≡ b
        alone_out a b same = cc

-- ---- lists from a place on

counted : {A B : Type 0} (f : A → B) (xs : List A) → length (map f xs) ≡ length xs
counted f [] = refl
counted f (x ∷ xs) = ap suc (counted f xs)

none_past : {A B : Type 0} (f : A → B) (xs : List A) (i : ℕ) → length xs ≤ i → drop i (map f xs) ≡ []
none_past f xs i past = none_left (map f xs) i (subst (λ n. n ≤ i) (sym (counted f xs)) past)

pub no_facts_left : (L R : List PredChunk) (i : ℕ) → length L ≤ i → length R ≤ i → TellsFacts (drop i (facts_view L)) (drop i (facts_view R)) []
no_facts_left L R i past past_too =
    subst (λ cs. TellsFacts cs (drop i (facts_view R)) []) (sym (none_past fact_view L i past)) (subst (λ cs. TellsFacts [] cs []) (sym (none_past fact_view R i past_too)) no_facts)

pub facts_from : (L R : List PureFact) (i : ℕ) (c d : PureFact) (later here : Alternatives) → slice_get L i ≡ Some c → slice_get R i ≡ Some d → TellsFacts (drop (i + 1) L) (drop (i + 1) R) later → TellsFact c d here → TellsFacts (drop i L) (drop i R) (later ++ here)
facts_from L R i c d later here at at_too rest one =
    subst (λ cs. TellsFacts cs (drop i R) (later ++ here)) (sym (drop-found L i c at))
    (subst (λ cs. TellsFacts (c ∷ drop (i + 1) L) cs (later ++ here)) (sym (drop-found R i d at_too)) (next_facts c d (drop (i + 1) L) (drop (i + 1) R) later here rest one))

pub no_uses_left : (L R : List CoreUse) (i : ℕ) → length L ≤ i → length R ≤ i → TellsHeaps (drop i (uses_view L)) (drop i (uses_view R)) (record { alternatives = []; unclear = None })
no_uses_left L R i past past_too =
    subst (λ us. TellsHeaps us (drop i (uses_view R)) (record { alternatives = []; unclear = None })) (sym (none_past use_view L i past))
    (subst (λ us. TellsHeaps [] us (record { alternatives = []; unclear = None })) (sym (none_past use_view R i past_too)) no_uses)

pub uses_from : (L R : List PureUse) (i : ℕ) (u t : PureUse) (later d : PureDifference) → slice_get L i ≡ Some u → slice_get R i ≡ Some t → TellsHeaps (drop (i + 1) L) (drop (i + 1) R) later → TellsNext u t later d → TellsHeaps (drop i L) (drop i R) d
uses_from L R i u t later d at at_too rest next =
    subst (λ us. TellsHeaps us (drop i R) d) (sym (drop-found L i u at)) (subst (λ us. TellsHeaps (u ∷ drop (i + 1) L) us d) (sym (drop-found R i t at_too)) (next (drop (i + 1) L) (drop (i + 1) R) rest))

pub other_lengths : {A B : Type 0} (f : A → B) (xs ys : List A) → ¬ (length xs ≡ length ys) → ¬ (length (map f xs) ≡ length (map f ys))
other_lengths f xs ys other same = other (sym (counted f xs) ∙ (same ∙ counted f ys))

pub names_from : (bs cs : PureStore) (items : List Binding) (i : ℕ) (b : Binding) (x here : Alternatives) → i < length items → b ≡ get_or items i b → TellsNames bs cs (bindings_view (take i items)) x → TellsName bs cs b.name here
    → TellsNames bs cs (bindings_view (take (i + 1) items)) (x ++ here)
names_from bs cs items i b x here below is so_far one =
    subst (λ names. TellsNames bs cs names (x ++ here)) (sym (ap bindings_view (take_more items i b below ∙ ap (λ k. take i items ++ k ∷ []) (sym is)) ∙ map-append binding_view (take i items) (b ∷ [])))
    (next_names bs cs (bindings_view (take i items)) (binding_view b) x here so_far one)

-- ---- what is left

each_term : (vars : List Sort) (ts : List PureTerm) (us : List PureUse) → AreEachOver vars ts → Each (λ u. Each (λ t. IsAmong t ts) (u.ins ++ u.outs)) us → AreUsesOver vars us
each_term vars ts us over among =
    each_to (λ u. Each (λ t. IsAmong t ts) (u.ins ++ u.outs)) (λ u. AreEachOver vars (u.ins ++ u.outs)) us (λ u. each_to (λ t. IsAmong t ts) (IsOver vars) (u.ins ++ u.outs) (λ t. one ts t over)) among
  where
    one : (ss : List PureTerm) (t : PureTerm) → AreEachOver vars ss → IsAmong t ss → IsOver vars t
    one [] t all is = absurd is
    one (s ∷ ss) t all (inl here) = subst (IsOver vars) here all.0
    one (s ∷ ss) t all (inr later) = one ss t all.1 later

module _ {S : Type 0} (stands : S → List PureValue → Heap → Type 0) (terms : S → StateTerms) (memory : S) (facts : List PureFact) (unlisted : PureStore) (former : PurePassed S) (us ts : List PureUse)
    (lists : (v : List PureValue) (h : Heap) → stands memory v h → AreUnion v us h) (lists_too : (v : List PureValue) (h : Heap) → stands former.memory v h → AreUnion v ts h)
    (among : Each (λ u. Each (λ t. IsAmong t (all_of (terms memory))) (u.ins ++ u.outs)) us) (among_too : Each (λ u. Each (λ t. IsAmong t (all_of (terms former.memory))) (u.ins ++ u.outs)) ts)
    (heaps : PureDifference) (of_facts of_values : Alternatives) (tell_heaps : TellsHeaps us ts heaps) (tell_facts : TellsFacts facts former.facts of_facts) (tell_values : TellsStores unlisted former.unlisted of_values) where
  pub tells_difference : TellsDifference stands terms memory facts unlisted former (record { alternatives = (of_values ++ of_facts) ++ heaps.alternatives; unclear = heaps.unclear })
  tells_difference vars memory_over facts_over values_over former_over =
      let h = tell_heaps vars (each_term vars (all_of (terms memory)) us memory_over among) (each_term vars (all_of (terms former.memory)) ts former_over.memory among_too) in
      let f = tell_facts vars facts_over former_over.facts in
      let b = tell_values vars values_over former_over.unlisted in (
        each_append (AreConditions vars) (of_values ++ of_facts) heaps.alternatives (each_append (AreConditions vars) of_values of_facts b.0 f.0) h.0,
        h.1,
        λ p name m entry v xs q left c proper stand are values_are passed.
            let told = h.2 v left.heap q.remainder.heap proper (lists v left.heap stand) (lists_too v q.remainder.heap passed.memory) in
            let same_facts = f.1 v left.facts q.remainder.facts proper are passed.facts in
            let same_values = b.1 v (unlisted_in xs c.machine.current.store) q.unlisted proper values_are passed.unlisted in
            record {
              otherwise = λ hold before. ⊎_elim
                  (λ first. ⊎_elim (λ of_store. same_values.otherwise of_store before.same_values) (λ of_list. same_facts.otherwise of_list before.same_facts) (one_parts (λ conds. IsTrue (all_true v conds)) of_values of_facts first))
                  (λ second. told.otherwise second before.same_heap)
                  (one_parts (λ conds. IsTrue (all_true v conds)) (of_values ++ of_facts) heaps.alternatives hold);
              cover = λ clear. ⊎_elim
                  (λ holds. inl (one_left (λ conds. IsTrue (all_true v conds)) (of_values ++ of_facts) heaps.alternatives (one_left (λ conds. IsTrue (all_true v conds)) of_values of_facts holds)))
                  (λ v_same. ⊎_elim
                  (λ holds. inl (one_left (λ conds. IsTrue (all_true v conds)) (of_values ++ of_facts) heaps.alternatives (one_right (λ conds. IsTrue (all_true v conds)) of_values of_facts holds)))
                  (λ f_same. ⊎_elim
                  (λ holds. inl (one_right (λ conds. IsTrue (all_true v conds)) (of_values ++ of_facts) heaps.alternatives holds))
                  (λ h_same. inr (record { same_heap = h_same; same_facts = f_same; same_values = v_same }))
                  (told.cover clear))
                  same_facts.cover)
                  same_values.cover;
              has_value = told.has_value;
            },
      )
