-- What is asked where something isn't decided.
use Rattle.std.proofs.Common.{◌≡◌, ◌⊎◌, ⊎_elim, inl, inr, ℕ, ℤ, List, [], ◌∷◌, ◌++◌, Bool, true, false, ◌&&◌, if◌then◌else◌, Option, Some, None, IfSome, IsSome, IsTrue, refl, sym, ap, subst, ◌∙◌}
use Rattle.std.specs.List.{list_all}
use Rattle.std.specs.Option.{option_map, option_or}
use Rattle.std.proofs.lemmas.Bool.{and_parts}
use Rattle.std.proofs.lemmas.List.{append-nil}
use Rattle.gil_values.specs.declared.places.Place.{Place}
use Rattle.gil_values.specs.Pure.{PureValue}
use Rattle.gil_syntax.specs.Pure.{PureProc, PureParts, PureNumberedCommand}
use Rattle.gil_syntax.specs.Valid.{is_among}
use Rattle.mem_model.specs.declared.keys.MemoryName.{MemoryName}
use Rattle.mem_model.specs.Actions.{Actions}
use Rattle.mem_model.specs.Heaps.{Heap}
use Rattle.checked_runs.specs.Specifications.{result_name}
use Rattle.inferred_specs.specs.Inferred.{PureFound}
use Rattle.pure_terms.specs.declared.atoms.Atom.{Atom}
use Rattle.pure_terms.specs.declared.queries.Query.{Query}
use Rattle.pure_terms.specs.Fragment.{has_fragment_form, InFragment}
use Rattle.pure_terms.specs.Pure.{PureTerm, PureAtom, opening}
use Rattle.pure_terms.specs.View.{atom_view, atoms_view}
use Rattle.sym_model.specs.Lists.{Each}
use Rattle.sym_model.specs.Terms.{StateTerms}
use Rattle.sym_model.proofs.ListLaws.{each_append, each_left, each_right, each_to}
use Rattle.sym_paths.specs.Meaning.{command_of_frames}
use Rattle.sym_paths.specs.Pure.{PureFrame, PureEnd, returned, failed, threw, missed, vanished, cut, unknown, PurePath}
use Rattle.sym_paths.specs.Steps.{IsUnknown, IsPlaceOf}
use Rattle.bi_beginnings.specs.Beginnings.{PureBeginning, IsBeginning, first_beginning}
use Rattle.bi_beginnings.specs.Opening.{IsAskedThere}
use Rattle.bi_specifications.specs.Shape.{MayBeSaid}
use Rattle.bi_specifications.specs.Specified.{PureEntry, IsExplored}
use Rattle.bi_specifications.proofs.Grown.{IsGrown, ended_grown}
use Rattle.biabduce.specs.Asked.{asked_of_end, IsAskedOf, ComesOf, Adds, AllAre, IsAskedAlong, IsAskedFirst, IsLeftOf, AsksRightly}
use Rattle.biabduce.specs.Covering.{IsToldEnd}
use Rattle.biabduce.specs.Sound.{PureAsked, PureInference, first_asked}
use Rattle.biabduce.specs.View.{asked_view}
use Rattle.biabduce.proofs.Outside.{open_outside}

-- ---- places

pub placed_at : (p : PureParts) (fs : List PureFrame) (n : PureNumberedCommand) (place : Place) (f : PureFrame) (waiting : List PureFrame) → fs ≡ f ∷ waiting
    → place ≡ record { proc = f.procedure; at = n.at } → command_of_frames p fs ≡ Some n → IsPlaceOf p fs place
placed_at p fs n place f waiting is placed at = subst (λ gs. IsPlaceOf p gs place) (sym is) (n, (subst (λ gs. command_of_frames p gs ≡ Some n) is at, placed))

-- ---- what is asked of a path that can't be said

pub forms_seen : (atoms : List Atom) → list_all (λ a. has_fragment_form (atom_view a)) atoms ≡ list_all has_fragment_form (atoms_view atoms)
forms_seen [] = refl
forms_seen (a ∷ atoms) = ap (λ b. has_fragment_form (atom_view a) && b) (forms_seen atoms)

pub asked_inside : (conds : List PureAtom) (t : PureTerm) → list_all has_fragment_form conds ≡ true → asked_of_end conds t ≡ conds ++ opening t ∷ []
asked_inside conds t all = ap (λ b. if b then conds ++ opening t ∷ [] else conds) all

pub asked_outside : (conds : List PureAtom) (t : PureTerm) → list_all has_fragment_form conds ≡ false → asked_of_end conds t ≡ conds
asked_outside conds t some = ap (λ b. if b then conds ++ opening t ∷ [] else conds) some

either : (b : Bool) → (b ≡ true) ⊎ (b ≡ false)
either true = inl refl
either false = inr refl

not_both : {A : Type 0} (b : Bool) → b ≡ true → b ≡ false → A
not_both true all some = absurd (cc)
not_both false all some = absurd (cc)

each_form : (conds : List PureAtom) → list_all has_fragment_form conds ≡ true → Each (λ a. IsTrue (has_fragment_form a)) conds
each_form [] all = tt
each_form (a ∷ conds) all = let (here, later) = and_parts (has_fragment_form a) (list_all has_fragment_form conds) all in (here, each_form conds later)

-- it isn't in the fragment
pub end_outside : (conds : List PureAtom) (t : PureTerm) → ¬ InFragment (asked_of_end conds t)
end_outside conds t =
    ⊎_elim (λ all. subst (λ atoms. ¬ InFragment atoms) (sym (asked_inside conds t all)) (open_outside conds t))
    (λ some. subst (λ atoms. ¬ InFragment atoms) (sym (asked_outside conds t some)) (λ inside. not_both (list_all has_fragment_form conds) inside.forms some))
    (either (list_all has_fragment_form conds))

told_known : (o : Option PureEnd) → IsToldEnd o → ¬ IsUnknown o
told_known (Some (returned t)) told is = is
told_known (Some (threw t place)) told is = is
told_known (Some cut) told is = is
told_known (Some (failed t place)) told is = is
told_known (Some (missed k place)) told is = is
told_known (Some vanished) told is = is
told_known (Some (unknown place reason)) told is = told
told_known None told is = is

-- what is asked is its conditions, or a parameter has the name of the result
abbrev pub IsSaidWhy : PureProc → List PureAtom → List PureAtom → Type 0
IsSaidWhy q conds atoms = (atoms ≡ conds) ⊎ ((is_among q.params result_name ≡ true) × ((term : PureTerm) × (atoms ≡ conds ++ opening term ∷ [])))

module _ {S : Type 0} (p : PureParts) (memory : MemoryName) (m : Actions) (stands : S → List PureValue → Heap → Type 0) (terms : S → StateTerms)
    (asked : List ℕ → List PureTerm → List PureTerm × List PureTerm) (depends : S → List ℕ → List PureTerm → List PureValue → Heap → PureTerm → Type 0) (plain : S → ℤ → ℤ → Type 0) (keeps_plain : Type 0)
    (kept : S → Type 0) (q : PureProc) (n : ℕ) where
  pub unsaid_why : (e : PureEntry) (path : PurePath S) → IsExplored memory m stands terms asked depends plain keeps_plain kept q e path p n → IsToldEnd path.ending → ¬ MayBeSaid q e path
      → (t : PureTerm) (atoms : List PureAtom) → atoms ≡ asked_of_end path.conds t → IsSaidWhy q path.conds atoms
  unsaid_why e path explored told unsaid t atoms is =
      ⊎_elim (λ all. inr (named all (either (is_among q.params result_name)), (t, is ∙ asked_inside path.conds t all))) (λ some. inl (is ∙ asked_outside path.conds t some))
      (either (list_all has_fragment_form path.conds))
    where
      grown : IsGrown terms explored.start path
      grown = ended_grown p m stands terms asked explored.start depends plain keeps_plain n path explored.opening.over explored.opening.is_met (told_known path.ending told) explored.ended

      named : list_all has_fragment_form path.conds ≡ true → (is_among q.params result_name ≡ true) ⊎ (is_among q.params result_name ≡ false) → is_among q.params result_name ≡ true
      named all (inl is_named) = is_named
      named all (inr no_result) = absurd (unsaid (record { no_result = no_result; over = grown.over.conds; forms = each_form path.conds all }))

-- ---- what a path adds

module _ {S : Type 0} (p : PureParts) (q : PureProc) (path : PurePath S) where
  first_or_so : (o : Option PureAsked) (x : PureAsked) → IsAskedOf path x p q → IfSome (first_asked o x) (λ y. (o ≡ Some y) ⊎ IsAskedOf path y p q)
  first_or_so None x asks = inr asks
  first_or_so (Some kept) x asks = inl refl

  before_or_so : (o : Option PureAsked) → IfSome o (λ y. (o ≡ Some y) ⊎ IsAskedOf path y p q)
  before_or_so None = tt
  before_or_so (Some x) = inl refl

  pub adds_left : (i j : PureInference) (x : PureAsked) → j ≡ record i { undecided = first_asked i.undecided x } → IsAskedOf path x p q → Adds p q path i j
  adds_left i j x is asks = record {
    more = [];
    left = ap (λ (k : PureInference). k.left) is ∙ sym (append-nil i.left);
    each = tt;
    undecided = subst (λ (k : PureInference). IfSome k.undecided (λ y. (i.undecided ≡ Some y) ⊎ IsAskedOf path y p q)) (sym is) (first_or_so i.undecided x asks);
  }

  pub adds_begun : (i j : PureInference) (more : List PureBeginning) → j ≡ record i { left = i.left ++ more } → Each (ComesOf path) more → Adds p q path i j
  adds_begun i j more is come = record {
    more = more;
    left = ap (λ (k : PureInference). k.left) is;
    each = come;
    undecided = subst (λ (k : PureInference). IfSome k.undecided (λ y. (i.undecided ≡ Some y) ⊎ IsAskedOf path y p q)) (sym is) (before_or_so i.undecided);
  }

  pub adds_found : (i j : PureInference) (found : PureFound) → j ≡ record i { founds = i.founds ++ found ∷ [] } → Adds p q path i j
  adds_found i j found is = record {
    more = [];
    left = ap (λ (k : PureInference). k.left) is ∙ sym (append-nil i.left);
    each = tt;
    undecided = subst (λ (k : PureInference). IfSome k.undecided (λ y. (i.undecided ≡ Some y) ⊎ IsAskedOf path y p q)) (sym is) (before_or_so i.undecided);
  }

  pub adds_nothing : (i : PureInference) → Adds p q path i i
  adds_nothing i = record { more = []; left = sym (append-nil i.left); each = tt; undecided = before_or_so i.undecided }

-- ---- what holds of all that is left

module _ (Left : PureBeginning → Type 0) (Asked : PureAsked → Type 0) where
  pub all_added : {S : Type 0} (p : PureParts) (q : PureProc) (path : PurePath S) (i j : PureInference) → Adds p q path i j → ((b : PureBeginning) → ComesOf path b → Left b)
      → ((x : PureAsked) → IsAskedOf path x p q → Asked x) → AllAre Left Asked i → AllAre Left Asked j
  all_added p q path i j adds of_left of_asked (left, undecided) = (
    subst (Each Left) (sym adds.left) (each_append Left i.left adds.more left (each_to (ComesOf path) Left adds.more of_left adds.each)),
    by j.undecided adds.undecided,
  )
    where
      by : (o : Option PureAsked) → IfSome o (λ x. (i.undecided ≡ Some x) ⊎ IsAskedOf path x p q) → IfSome o Asked
      by None none = tt
      by (Some x) one = ⊎_elim (λ is. subst (λ (o : Option PureAsked). IfSome o Asked) is undecided) (λ asks. of_asked x asks) one

  -- beginnings are left besides
  pub all_more : (i j : PureInference) (more : List PureBeginning) → j.left ≡ i.left ++ more → j.undecided ≡ i.undecided → Each Left more → AllAre Left Asked i → AllAre Left Asked j
  all_more i j more is same all (left, undecided) = (
    subst (Each Left) (sym is) (each_append Left i.left more left all),
    subst (λ (o : Option PureAsked). IfSome o Asked) (sym same) undecided,
  )

  -- the last beginning is taken out
  pub all_taken : (i : PureInference) (rest : List PureBeginning) (b : PureBeginning) → i.left ≡ rest ++ b ∷ [] → AllAre Left Asked i → Left b × AllAre Left Asked (record i { left = rest })
  all_taken i rest b is (left, undecided) =
      let all = subst (Each Left) is left in
      ((each_right Left rest (b ∷ []) all).0, (each_left Left rest (b ∷ []) all, undecided))

  -- there was none to take out
  pub all_over : (i : PureInference) (rest : List PureBeginning) → i.left ≡ rest → AllAre Left Asked i → AllAre Left Asked (record i { left = rest })
  all_over i rest is (left, undecided) = (subst (Each Left) is left, undecided)

  pub all_first : (i : PureInference) (b : PureBeginning) → i ≡ record { left = b ∷ []; founds = []; undecided = None } → Left b → AllAre Left Asked i
  all_first i b is here = subst (AllAre Left Asked) (sym is) ((here, tt), tt)

  -- what is asked of a beginning
  pub all_any : (i j : PureInference) (o : Option Query) → j ≡ record i { undecided = option_or i.undecided (option_map asked_view o) } → IfSome o (λ x. Asked (asked_view x)) → AllAre Left Asked i → AllAre Left Asked j
  all_any i j o is asks (left, undecided) = subst (AllAre Left Asked) (sym is) (left, by i.undecided o undecided asks)
    where
      by : (kept_before : Option PureAsked) (later : Option Query) → IfSome kept_before Asked → IfSome later (λ x. Asked (asked_view x)) → IfSome (option_or kept_before (option_map asked_view later)) Asked
      by (Some x) later here asked_later = here
      by None None none asked_later = tt
      by None (Some x) none asked_later = asked_later

  pub all_seen : (i : PureInference) (o : Option Query) → i.undecided ≡ option_map asked_view o → AllAre Left Asked i → IfSome o (λ x. Asked (asked_view x))
  all_seen i o is (left, undecided) = by o (subst (λ (u : Option PureAsked). IfSome u Asked) is undecided)
    where
      by : (u : Option Query) → IfSome (option_map asked_view u) Asked → IfSome u (λ x. Asked (asked_view x))
      by None none = tt
      by (Some x) one = one

pub none_asks : (P : Query → Type 0) (o : Option Query) → ¬ (IsSome o) → IfSome o P
none_asks P None none = tt
none_asks P (Some x) none = absurd (none refl)

pub each_asks : (P Q : Query → Type 0) (o : Option Query) → ((x : Query) → P x → Q x) → IfSome o P → IfSome o Q
each_asks P Q None f none = tt
each_asks P Q (Some x) f here = f x here

module _ {S : Type 0} (p : PureParts) (memory : MemoryName) (m : Actions) (stands : S → List PureValue → Heap → Type 0) (terms : S → StateTerms)
    (asked : List ℕ → List PureTerm → List PureTerm × List PureTerm) (depends : S → List ℕ → List PureTerm → List PureValue → Heap → PureTerm → Type 0) (plain : S → ℤ → ℤ → Type 0) (keeps_plain : Type 0)
    (kept : S → Type 0) (q : PureProc) (n : ℕ) where
  abbrev Rightly : PureInference → Type 0
  Rightly = AsksRightly p memory m stands terms asked depends plain keeps_plain kept q n

  abbrev LeftOf : PureBeginning → Type 0
  LeftOf = IsLeftOf p memory m stands terms asked depends plain keeps_plain kept q n

  abbrev Along : PureAsked → Type 0
  Along = IsAskedAlong p memory m stands terms asked depends plain keeps_plain kept q n

  abbrev First : PureAsked → Type 0
  First = IsAskedFirst p memory m stands terms asked depends plain keeps_plain kept q n

  abbrev AlongOrFirst : PureAsked → Type 0
  AlongOrFirst x = Along x ⊎ First x

  pub first_rightly : (i : PureInference) → i ≡ record { left = first_beginning q ∷ []; founds = []; undecided = None } → Rightly i
  first_rightly i is = all_first LeftOf AlongOrFirst i (first_beginning q) is (inl refl)

  -- an ended path
  pub added_rightly : (e : PureEntry) (path : PurePath S) → IsExplored memory m stands terms asked depends plain keeps_plain kept q e path p n → (i j : PureInference) → Adds p q path i j
      → Rightly i → Rightly j
  added_rightly e path explored i j adds before =
      all_added LeftOf AlongOrFirst p q path i j adds
      (λ b comes. inr (record { path = path; way = record { entry = e; explored = explored; no_draw = comes.no_draw }; comes = comes }))
      (λ x asks. inl (record { path = path; way = record { entry = e; explored = explored; no_draw = asks.no_draw }; asks = asks })) before

  -- what is asked of a beginning
  pub begun_rightly : (b : PureBeginning) → IsBeginning memory q.params b → LeftOf b → (i j : PureInference) (o : Option Query) → (b.uses ≡ [] → b.conds ≡ [] → ¬ (IsSome o))
      → IfSome o (λ x. IsAskedThere stands terms kept q.params b x.place x.path x.vars (atoms_view x.given) (atoms_view x.query))
      → j ≡ record i { undecided = option_or i.undecided (option_map asked_view o) } → Rightly i → Rightly j
  begun_rightly b is_beginning left i j o none asks is before =
      all_any LeftOf AlongOrFirst i j o is
      (⊎_elim
      (λ first. none_asks (λ x. AlongOrFirst (asked_view x)) o (none (ap (λ (c : PureBeginning). c.uses) first) (ap (λ (c : PureBeginning). c.conds) first)))
      (λ again. each_asks (λ x. IsAskedThere stands terms kept q.params b x.place x.path x.vars (atoms_view x.given) (atoms_view x.query)) (λ x. AlongOrFirst (asked_view x)) o
      (λ x there. inr (record { beginning = b; of_procedure = is_beginning; again = again; asks = there })) asks)
      left)
      before
