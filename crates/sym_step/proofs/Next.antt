-- The next paths, from the laws of commands and of what a decider makes of candidates.
use Rattle.std.proofs.Common.{◌≡◌, ◌⊎◌, inl, inr, ℕ, ◌+◌, ◌<◌, ℤ, List, [], ◌∷◌, length, Some, None, IsTrue, refl, sym, ap, subst, ◌∙◌}
use Rattle.gil_values.specs.declared.places.Place.{Place}
use Rattle.gil_values.specs.Pure.{PureValue}
use Rattle.gil_syntax.specs.Pure.{PureParts, PureCommand, PureNumberedCommand}
use Rattle.gil_syntax.specs.Simple.{is_simple_command}
use Rattle.gil_syntax.specs.Valid.{IsValid}
use Rattle.mem_model.specs.Actions.{Actions}
use Rattle.mem_model.specs.Heaps.{Heap}
use Rattle.pure_terms.specs.Meaning.{AreOver}
use Rattle.pure_terms.specs.Pure.{PureTerm, PureAtom}
use Rattle.sym_engine.specs.Forms.{NeedWhatMattersIn}
use Rattle.sym_engine.specs.Lawful.{IsOwnOf, IsOwnAt, AreLawfulIn, IsAskedByMemoryOf, IsAskedByMemoryAt}
use Rattle.sym_engine.specs.Narrow.{narrow_growth, IsNarrowPath, StayNarrowIn, StaysNarrow}
use Rattle.sym_engine.specs.Placed.{AreAtCommands, GoesOnAtCommands}
use Rattle.sym_engine.specs.Plain.{StayPlainIn}
use Rattle.sym_engine.specs.Settles.{StandsThere, IsAfter, AreAllOver}
use Rattle.sym_engine.proofs.Fragments.{each_over_all}
use Rattle.sym_engine.proofs.Settled.{SettledSoFar}
use Rattle.sym_engine.proofs.SettledNarrow.{settled_narrow}
use Rattle.sym_engine.proofs.SettledPlain.{settled_within}
use Rattle.sym_model.specs.Lists.{Each, IsAmong}
use Rattle.sym_model.specs.Terms.{StateTerms}
use Rattle.sym_model.proofs.ListLaws.{not_none, each_to}
use Rattle.sym_paths.specs.Forms.{NeedsAt, NeedsWhatMatters}
use Rattle.sym_paths.specs.Meaning.{IsOverTable, command_of_frames, command_of_path}
use Rattle.sym_paths.specs.Moves.{NoOwn}
use Rattle.sym_paths.specs.Pure.{PureFrame, PurePath}
use Rattle.sym_paths.specs.Settling.{Candidate, AreCandidates, Stays, AreSettled}
use Rattle.sym_paths.specs.Steps.{Grows, AddsOwn, Assumes, IsPlaceOf, IsUnknown, IsPlainPath, StaysWithin, step_growth, AreNextPaths}
use Rattle.sym_paths.specs.Valued.{place_at}
use Rattle.sym_paths.proofs.Assuming.{assumes_wider}
use Rattle.sym_paths.proofs.Forms.{needs_at, settled_needs}
use Rattle.sym_paths.proofs.Settled.{settled_are_next}
use Rattle.sym_step.specs.Stepping.{MayStep}
use Rattle.sym_step.specs.Next.{AreStepped, IsNext}
use Rattle.sym_step.specs.View.{asked as are_asked}

-- ---- conditions that are a command's own

module _ {S : Type 0} (p : PureParts) (m : Actions) (stands : S → List PureValue → Heap → Type 0) (terms : S → StateTerms) where
  own_more : (own more : PureAtom → Type 0) → ((a : PureAtom) → own a → more a) → (path next : PurePath S) → AddsOwn own path next → AddsOwn more path next
  own_more own more wider path next adds = record {
    added = adds.added;
    conds = adds.conds;
    each = each_to own more adds.added wider adds.each;
  }

  next_of_more : (own more by_memory more_by_memory : PureAtom → Type 0) → ((a : PureAtom) → own a → more a) → ((a : PureAtom) → by_memory a → more_by_memory a) → (path : PurePath S) (nexts : List (PurePath S)) → AreNextPaths p m stands terms own by_memory path nexts
      → AreNextPaths p m stands terms more more_by_memory path nexts
  next_of_more own more by_memory more_by_memory wider memory_wider path nexts laws = record {
    growth = laws.growth;
    recorded = laws.recorded;
    cover = laws.cover;
    exact = laws.exact;
    choices = laws.choices;
    along = laws.along;
    own_conditions = each_to (AddsOwn own path) (AddsOwn more path) nexts (own_more own more wider path) laws.own_conditions;
    assumes = each_to (Assumes p own by_memory path) (Assumes p more more_by_memory path) nexts (assumes_wider p own more by_memory more_by_memory wider memory_wider path) laws.assumes;
    origin = laws.origin;
    no_form = laws.no_form;
    satisfiable = laws.satisfiable;
    unknown_rightly = laws.unknown_rightly;
  }

  -- ---- one path, and no question

  module _ (asked : List ℕ → List PureTerm → List PureTerm × List PureTerm) (path next q : PurePath S) (nexts : List (PurePath S)) (is : next ≡ q) (alone : nexts ≡ next ∷ []) where
    only : nexts ≡ q ∷ []
    only = alone ∙ ap (λ r. r ∷ []) is

    pub one_next : AreNextPaths p m stands terms NoOwn NoOwn path (q ∷ []) → AreNextPaths p m stands terms (IsOwnAt stands terms asked m p path) (IsAskedByMemoryAt stands terms asked m p path) path nexts
    one_next laws = subst (AreNextPaths p m stands terms (IsOwnAt stands terms asked m p path) (IsAskedByMemoryAt stands terms asked m p path) path) (sym only) (next_of_more NoOwn (IsOwnAt stands terms asked m p path) NoOwn (IsAskedByMemoryAt stands terms asked m p path) (λ a none. absurd none) (λ a none. absurd none) path (q ∷ []) laws)

    pub one_ended : ¬ (q.ending ≡ None) → Each (GoesOnAtCommands p) nexts
    one_ended ends = subst (Each (GoesOnAtCommands p)) (sym only) (λ goes. absurd (ends goes), tt)

    pub one_placed : AreAtCommands p q.stack → Each (GoesOnAtCommands p) nexts
    one_placed placed = subst (Each (GoesOnAtCommands p)) (sym only) (λ goes. placed, tt)

    pub one_within : (plain : S → ℤ → ℤ → Type 0) → ((b : ℕ) → IsPlainPath plain b path → IsPlainPath plain (b + step_growth) q × ¬ IsUnknown q.ending) → StaysWithin p (λ d. IsTrue (is_simple_command d)) (IsPlainPath plain) path nexts
    one_within plain stays c b at simple small from = subst (Each (λ r. IsPlainPath plain (b + step_growth) r × ¬ IsUnknown r.ending)) (sym only) (stays b from, tt)

    pub one_narrow : ((b : ℕ) → IsNarrowPath terms b path → IsNarrowPath terms (b + narrow_growth) q × ¬ IsUnknown q.ending) → StaysNarrow p terms path nexts
    one_narrow stays c b at form enough narrow from = subst (Each (λ r. IsNarrowPath terms (b + narrow_growth) r × ¬ IsUnknown r.ending)) (sym only) (stays b from, tt)

-- ---- what a decider is asked of

module _ {S : Type 0} (terms : S → StateTerms) (path : PurePath S) where
  abbrev Grown : Candidate S → Type 0
  Grown c = Grows terms path c.path × Each (λ a. IsAmong a c.path.conds) c.no_fault

  pub all_over : (cs : List (Candidate S)) → Each Grown cs → AreAllOver cs
  all_over cs grown = each_to Grown (λ c. AreOver c.path.vars c.path.conds) cs (λ c g. each_over_all c.path.vars c.path.conds g.0.over.conds) grown

  pub all_after : (cs : List (Candidate S)) → Each Grown cs → Each (IsAfter path) cs
  all_after cs grown = each_to Grown (IsAfter path) cs (λ c g. record { sorts = g.0.new_vars; vars = g.0.vars; added = g.0.new_conds; conds = g.0.conds }) grown

place_there : (p : PureParts) (fs : List PureFrame) (c : PureNumberedCommand) (here : Place) → command_of_frames p fs ≡ Some c → here ≡ place_at fs c → IsPlaceOf p fs here
place_there p [] c here at is = not_none at
place_there p (f ∷ fs) c here at is = (c, (at, is))

pub stands_there : {S : Type 0} (p : PureParts) (terms : S → StateTerms) (path : PurePath S) (c : PureNumberedCommand) (here : Place) (count : ℕ) → IsOverTable terms path → command_of_path p path ≡ Some c → here ≡ place_at path.stack c
    → length path.conds ≡ count → StandsThere p path count here
stands_there p terms path c here count over at is counted = record { conditions = counted; over = over.conds; place = place_there p path.stack c here at is }

-- ---- what is left of candidates

module _ {S : Type 0} (p : PureParts) (path : PurePath S) where
  left_placed : (c : Candidate S) (next : PurePath S) → Stays p path c next → GoesOnAtCommands p c.path → GoesOnAtCommands p next
  left_placed c next (inl kept) placed = subst (GoesOnAtCommands p) (sym kept.is) placed
  left_placed c next (inr left) placed = subst (GoesOnAtCommands p) (sym left.is) (λ goes. not_none (sym goes))

  all_left_placed : (cs : List (Candidate S)) (nexts : List (PurePath S)) → AreSettled p path cs nexts → Each (λ c. GoesOnAtCommands p c.path) cs → Each (GoesOnAtCommands p) nexts
  all_left_placed [] nexts is placed = subst (Each (GoesOnAtCommands p)) (sym is) tt
  all_left_placed (c ∷ cs) nexts (inl (unmet, later)) placed = all_left_placed cs nexts later placed.1
  all_left_placed (c ∷ cs) nexts (inr (next, (rest, (is, stays, later)))) placed =
      subst (Each (GoesOnAtCommands p)) (sym is) (left_placed c next stays placed.0, all_left_placed cs rest later placed.1)

  module _ (m : Actions) (stands : S → List PureValue → Heap → Type 0) (terms : S → StateTerms) (asked : List ℕ → List PureTerm → List PureTerm × List PureTerm) (c : PureNumberedCommand) (here : Place) (cs : List (Candidate S)) (over : IsOverTable terms path) (no_end : path.ending ≡ None)
      (at : command_of_path p path ≡ Some c) (is : here ≡ place_at path.stack c) (lawful : AreLawfulIn stands terms asked m p path here c.command cs) where
    laws : AreCandidates p m stands terms (IsOwnOf stands terms asked m path c.command) (IsAskedByMemoryOf stands terms asked m path c.command) path cs
    laws = (lawful c over no_end at refl (sym is)).0

    pub asked_over : AreAllOver cs
    asked_over = all_over terms path cs laws.growth

    module _ (count : ℕ) (counted : length path.conds ≡ count) (nexts : List (PurePath S)) (settled : (r : PureParts) (q : PurePath S) → StandsThere r q count here → Each (IsAfter q) cs → AreSettled r q cs nexts) where
      are_settled : AreSettled p path cs nexts
      are_settled = settled p path (stands_there p terms path c here count over at is counted) (all_after terms path cs laws.growth)

      pub asked_next : AreNextPaths p m stands terms (IsOwnAt stands terms asked m p path) (IsAskedByMemoryAt stands terms asked m p path) path nexts
      asked_next =
          next_of_more p m stands terms (IsOwnOf stands terms asked m path c.command) (IsOwnAt stands terms asked m p path) (IsAskedByMemoryOf stands terms asked m path c.command) (IsAskedByMemoryAt stands terms asked m p path) (λ a own. (c, (at, own))) (λ a own. (c, (at, own))) path nexts
          (settled_are_next p m stands terms (IsOwnOf stands terms asked m path c.command) (IsAskedByMemoryOf stands terms asked m path c.command) path cs nexts laws are_settled)

      pub asked_placed : IsValid p → AreAtCommands p path.stack → Each (GoesOnAtCommands p) nexts
      asked_placed valid placed = all_left_placed cs nexts are_settled ((lawful c over no_end at refl (sym is)).1 valid placed)

      pub asked_within : (plain : S → ℤ → ℤ → Type 0) → path.steps < 10000 → IsValid p → StayPlainIn plain p path c.command cs → StaysWithin p (λ d. IsTrue (is_simple_command d)) (IsPlainPath plain) path nexts
      asked_within plain few valid stays = settled_within plain p m stands terms (IsOwnOf stands terms asked m path c.command) (IsAskedByMemoryOf stands terms asked m path c.command) path few c.command c cs nexts valid at refl laws stays are_settled

      pub asked_narrow : path.steps < 10000 → IsValid p → StayNarrowIn terms p path c.command cs → StaysNarrow p terms path nexts
      asked_narrow few valid stays = settled_narrow terms p m stands (IsOwnOf stands terms asked m path c.command) (IsAskedByMemoryOf stands terms asked m path c.command) path few c.command c cs nexts valid over at refl laws stays are_settled

-- ---- literal forms

every : {A : Type 0} (P : A → Type 0) → ((x : A) → P x) → (xs : List A) → Each P xs
every P holds [] = tt
every P holds (x ∷ xs) = (holds x, every P holds xs)

-- a command that is no action needs none of them
pub no_action : {S : Type 0} (p : PureParts) (stands : S → List PureValue → Heap → Type 0) (terms : S → StateTerms) (depends : S → List ℕ → List PureTerm → List PureValue → Heap → PureTerm → Type 0) (path : PurePath S) (k : PureCommand)
    → ((next : PurePath S) → NeedsAt p stands depends path next k) → (cs : List (Candidate S)) → NeedWhatMattersIn stands terms depends p path k cs
no_action p stands terms depends path k none cs c over at is = every (λ d. NeedsWhatMatters p stands depends path d.path) (λ d. needs_at p stands depends path c k at is d.path (none d.path)) cs

-- ---- the paths of a step at a command that asks something

module _ {S : Type 0} (p : PureParts) (m : Actions) (stands : S → List PureValue → Heap → Type 0) (terms : S → StateTerms) (asked : List ℕ → List PureTerm → List PureTerm × List PureTerm) (depends : S → List ℕ → List PureTerm → List PureValue → Heap → PureTerm → Type 0)
    (plain : S → ℤ → ℤ → Type 0) (keeps_plain keeps_narrow : Type 0) (path : PurePath S) (c : PureNumberedCommand) (here : Place) where
  pub asked_steps : (cs : List (Candidate S)) (count : ℕ) (nexts : List (PurePath S)) → MayStep p terms path → command_of_path p path ≡ Some c → here ≡ place_at path.stack c → IsValid p
      → AreLawfulIn stands terms asked m p path here c.command cs × (keeps_plain → StayPlainIn plain p path c.command cs) × NeedWhatMattersIn stands terms depends p path c.command cs × (keeps_narrow → StayNarrowIn terms p path c.command cs) → length path.conds ≡ count → SettledSoFar count here cs nexts
      → AreStepped p m stands terms asked depends plain keeps_plain keeps_narrow path nexts
  asked_steps cs count nexts may at is valid next counted settled = record {
    next = asked_next p path m stands terms asked c here cs may.over may.no_end at is next.0 count counted nexts settled;
    placed = asked_placed p path m stands terms asked c here cs may.over may.no_end at is next.0 count counted nexts settled valid may.placed;
    simple = λ keeps. asked_within p path m stands terms asked c here cs may.over may.no_end at is next.0 count counted nexts settled plain may.steps valid (next.1 keeps);
    narrow = λ keeps. asked_narrow p path m stands terms asked c here cs may.over may.no_end at is next.0 count counted nexts settled may.steps valid (next.3 keeps);
    forms = settled_needs p stands depends path cs nexts (next.2 c may.over at refl) (are_settled p path m stands terms asked c here cs may.over may.no_end at is next.0 count counted nexts settled);
  }

  -- candidates of the command at which the path stands
  pub asked_at : (k command : PureCommand) (cs : List (Candidate S)) → k ≡ command → AreLawfulIn stands terms asked m p path here command cs → (keeps_plain → StayPlainIn plain p path command cs) → NeedWhatMattersIn stands terms depends p path command cs → (keeps_narrow → StayNarrowIn terms p path command cs)
      → IsNext p m stands terms asked depends plain keeps_plain keeps_narrow path here k (are_asked cs)
  asked_at k command cs is lawful stays needs narrow = subst (λ j. IsNext p m stands terms asked depends plain keeps_plain keeps_narrow path here j (are_asked cs)) (sym is) (lawful, stays, needs, narrow)
