-- What becomes of a candidate by what the decider says.
use Rattle.std.proofs.Common.{◌≡◌, ◌⊎◌, inl, inr, ℕ, ◌<◌, List, [], ◌∷◌, ◌++◌, map, length, Bool, true, false, Option, Some, None, refl, sym, ap, subst, ◌∙◌, append_assoc, true≢false, arith}
use Rattle.std.specs.List.{list_any}
use Rattle.std.proofs.lemmas.List.{append-nil, length-append, length-map}
use Rattle.gil_values.specs.declared.places.Place.{Place}
use Rattle.gil_values.specs.Pure.{PureValue}
use Rattle.gil_syntax.specs.Pure.{PureParts}
use Rattle.pure_terms.specs.declared.atoms.Atom.{Atom}
use Rattle.pure_terms.specs.declared.deciders.Reason.{Reason}
use Rattle.pure_terms.specs.Deciding.{IsReason}
use Rattle.pure_terms.specs.Fragment.{InFragment}
use Rattle.pure_terms.specs.Laws.{AreEachInFragment}
use Rattle.pure_terms.specs.Meaning.{Satisfies, IsUnsatisfiable}
use Rattle.pure_terms.specs.Pure.{PureAtom}
use Rattle.pure_terms.specs.View.{atom_view, atoms_view}
use Rattle.sym_engine.specs.Settles.{StandsThere, IsAfter, SettlesAs}
use Rattle.sym_engine.proofs.Fragments.{open_seen, open_is_outside, open_not_each, kept_unasked}
use Rattle.sym_model.specs.Lists.{Each}
use Rattle.sym_model.specs.Meaning.{is_open, has_open}
use Rattle.sym_model.proofs.ListLaws.{each_left, each_right, each_mapped}
use Rattle.sym_paths.specs.Pure.{PurePath}
use Rattle.sym_paths.specs.Settling.{Candidate, ended_unknown, Stays, AreSettled}
use Rattle.sym_paths.specs.Steps.{IsFirstOutside, AsksMore}

abbrev pub seen_open : List Atom → Bool
seen_open atoms = list_any (λ a. is_open (atom_view a)) atoms

-- a list is longer than a part of it, where only the whole needs a literal form, or where it has another length
form_is_longer : (xs ys : List PureAtom) → has_open xs ≡ false → has_open (xs ++ ys) ≡ true → length xs < length (xs ++ ys)
form_is_longer xs [] none needs = absurd (true≢false (sym needs ∙ ap has_open (append-nil xs) ∙ none))
form_is_longer xs (y ∷ ys) none needs = subst (λ n. length xs < n) (sym (length-append xs (y ∷ ys))) (omega arith)

other_is_longer : (xs ys : List PureAtom) → ¬ (length (xs ++ ys) ≡ length xs) → length xs < length (xs ++ ys)
other_is_longer xs [] other = absurd (other (ap length (append-nil xs)))
other_is_longer xs (y ∷ ys) other = subst (λ n. length xs < n) (sym (length-append xs (y ∷ ys))) (omega arith)

module _ {S : Type 0} (p : PureParts) (path : PurePath S) (c : Candidate S) (here : Place) (old : ℕ) (atoms : List Atom) (stands : StandsThere p path old here) (same : atoms_view atoms ≡ c.path.conds) where
  closed : seen_open atoms ≡ false → has_open c.path.conds ≡ false
  closed none = ap has_open (sym same) ∙ sym (open_seen atoms) ∙ none

  pub stays_unasked : IsAfter path c → length atoms ≡ old → seen_open atoms ≡ false → Stays p path c c.path
  stays_unasked after count none =
      inl (kept_unasked path c after stands.over (ap length (sym same) ∙ length-map atoms atom_view ∙ count ∙ sym stands.conditions) (closed none))

  pub stays_met : (w : List PureValue) → Satisfies c.path.vars w (atoms_view atoms) → seen_open atoms ≡ false → Stays p path c c.path
  stays_met w meets none = inl (record {
    is = λ i. c.path;
    no_form = closed none;
    met = λ v old_met. (w, subst (Satisfies c.path.vars w) same meets);
  })

  -- there are more conditions than the old path has, where one needs a literal form, or where their number isn't the old one
  longer : IsAfter path c → (seen_open atoms ≡ true) ⊎ ¬ (length atoms ≡ old) → AsksMore path c.path
  longer after (inl needs) none =
      subst (λ xs. length path.conds < length xs) (sym after.conds)
      (form_is_longer path.conds after.added none (ap has_open (sym after.conds ∙ sym same) ∙ sym (open_seen atoms) ∙ needs))
  longer after (inr other) none =
      subst (λ xs. length path.conds < length xs) (sym after.conds)
      (other_is_longer path.conds after.added
      (λ equal. other (sym (length-map atoms atom_view) ∙ ap length same ∙ ap length after.conds ∙ equal ∙ stands.conditions)))

  pub stays_unknown : IsAfter path c → (seen_open atoms ≡ true) ⊎ ¬ (length atoms ≡ old) → (reason : Reason) (next : PurePath S) → ¬ InFragment (atoms_view atoms) → IsFirstOutside (atoms_view atoms) reason → next ≡ ended_unknown c here reason → Stays p path c next
  stays_unknown after asked reason next outside first is = inr (record {
    place = here;
    reason = reason;
    is = is;
    outside = subst (λ xs. ¬ InFragment xs) same outside;
    first = subst (λ xs. IsFirstOutside xs reason) same first;
    at = stands.place;
    asks = longer after asked;
  })

pub needs_some : (atoms : List Atom) → seen_open atoms ≡ true → AreEachInFragment (atoms_view atoms) → ⊥
needs_some atoms needs each = open_not_each (atoms_view atoms) (sym (open_seen atoms) ∙ needs) each

pub needs_outside : (atoms : List Atom) → seen_open atoms ≡ true → ¬ InFragment (atoms_view atoms)
needs_outside atoms needs = open_is_outside (atoms_view atoms) (sym (open_seen atoms) ∙ needs)

-- the reason that was named, where each atom by itself is in the fragment
pub named_first : (atoms : List PureAtom) (named : Reason) → IsReason atoms named → AreEachInFragment atoms → IsFirstOutside atoms named
named_first atoms named is each = record { named = is; those_before = λ i a less at. each i a at }

-- ---- candidates in order

-- the candidates so far have become these paths, whatever the path is that they come after
abbrev pub SettledSoFar : {S : Type 0} → ℕ → Place → List (Candidate S) → List (PurePath S) → Type 0
SettledSoFar {S} old here cs nexts = (p : PureParts) (path : PurePath S) → StandsThere p path old here → Each (IsAfter path) cs → AreSettled p path cs nexts

abbrev pub Settles : {S : Type 0} → ℕ → Place → Candidate S → Option (PurePath S) → Type 0
Settles {S} old here c o = (p : PureParts) (path : PurePath S) → StandsThere p path old here → IsAfter path c → SettlesAs p path c o

module _ {S : Type 0} (p : PureParts) (path : PurePath S) (c : Candidate S) where
  settled_push : (next : PurePath S) → Stays p path c next → (cs : List (Candidate S)) (nexts : List (PurePath S)) → AreSettled p path cs nexts → AreSettled p path (cs ++ c ∷ []) (nexts ++ next ∷ [])
  settled_push next stays [] nexts none = inr (next, ([], (ap (λ ns. ns ++ next ∷ []) none, stays, refl)))
  settled_push next stays (d ∷ cs) nexts (inl dropped) = inl (dropped.0, settled_push next stays cs nexts dropped.1)
  settled_push next stays (d ∷ cs) nexts (inr (first, (rest, (is, stayed, later)))) = inr (first, (rest ++ next ∷ [], (ap (λ ns. ns ++ next ∷ []) is, stayed, settled_push next stays cs rest later)))

  settled_drop : IsUnsatisfiable c.path.vars c.path.conds → (cs : List (Candidate S)) (nexts : List (PurePath S)) → AreSettled p path cs nexts → AreSettled p path (cs ++ c ∷ []) nexts
  settled_drop unmet [] nexts none = inl (unmet, none)
  settled_drop unmet (d ∷ cs) nexts (inl dropped) = inl (dropped.0, settled_drop unmet cs nexts dropped.1)
  settled_drop unmet (d ∷ cs) nexts (inr (first, (rest, (is, stayed, later)))) = inr (first, (rest, (is, stayed, settled_drop unmet cs rest later)))

module _ {S : Type 0} (old : ℕ) (here : Place) (cs : List (Candidate S)) (nexts : List (PurePath S)) (c : Candidate S) (so_far : SettledSoFar old here cs nexts) where
  pub one_kept : (next : PurePath S) → Settles old here c (Some next) → SettledSoFar old here (cs ++ c ∷ []) (nexts ++ next ∷ [])
  one_kept next settles p path stands after =
      settled_push p path c next (settles p path stands (each_right (IsAfter path) cs (c ∷ []) after).0) cs nexts (so_far p path stands (each_left (IsAfter path) cs (c ∷ []) after))

  pub one_dropped : Settles old here c None → SettledSoFar old here (cs ++ c ∷ []) nexts
  one_dropped settles p path stands after =
      settled_drop p path c (settles p path stands (each_right (IsAfter path) cs (c ∷ []) after).0) cs nexts (so_far p path stands (each_left (IsAfter path) cs (c ∷ []) after))

-- the next item of a list that is gone over
pub rest_more : {A : Type 0} (all done rest later : List A) (x : A) → all ≡ done ++ rest → rest ≡ x ∷ later → all ≡ (done ++ x ∷ []) ++ later
rest_more all done rest later x whole is = whole ∙ ap (λ xs. done ++ xs) is ∙ sym (append_assoc done (x ∷ []) later)

pub over_next : {A B : Type 0} (P : B → Type 0) (f : A → B) (all done rest later : List A) (x : A) → all ≡ done ++ rest → rest ≡ x ∷ later → Each P (map f all) → P (f x)
over_next P f all done rest later x whole is each =
    let split : Each P (map f (done ++ x ∷ later)) = subst (λ xs. Each P (map f xs)) (whole ∙ ap (λ xs. done ++ xs) is) each in
    (each_right (λ y. P (f y)) done (x ∷ later) (each_mapped P f (done ++ x ∷ later) split)).0
