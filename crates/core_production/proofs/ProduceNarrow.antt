-- Producing a name beside a narrow list of chunks.
use Rattle.std.proofs.Common.{◌≡◌, ℕ, ℤ, ◌-ℤ◌, ◌+ℤ◌, List, [], ◌∷◌, ◌++◌, Bool, true, false, Some, IsTrue, if◌then◌else◌, refl, sym, ◌∙◌}
use Rattle.core_changes.proofs.ConsumeNarrow.{named_prop}
use Rattle.core_production.specs.Producing.{name_fits, needs_form, listed_unless_open, fits_beside, has_open_names, fits_closed, opened_there, opened_at, is_right, may_stand, added, produced}
use Rattle.core_uses.specs.Uses.{outs_at}
use Rattle.gil_values.specs.declared.kinds.Kind.{Kind}
use Rattle.mem_model.specs.declared.cores.Core.{Core}
use Rattle.mem_model.specs.CoreNames.{core_of}
use Rattle.pure_terms.specs.Pure.{PureTerm}
use Rattle.sym_chunks.specs.ByPlace.{all_by_place}
use Rattle.sym_chunks.specs.Cases.{true_term}
use Rattle.sym_chunks.specs.NameTerms.{listed}
use Rattle.sym_chunks.proofs.Narrow.{reading, IsNarrow, AreDecided, IsNarrowChunk, IsNarrowBranch, narrow_wider, state_wider, narrow_chunks, name_at, texts_at_shape, texts_at_dom, same_decided, other_decided, listed_decided, form_decided, by_place_decided, narrow_branches}
use Rattle.sym_chunks.proofs.Shapes.{both_shaped, any_shaped, kind_shaped}
use Rattle.sym_model.specs.Alternatives.{Alternatives, never, always, both, any, same, of_kind}
use Rattle.sym_model.specs.Chunks.{terms_of}
use Rattle.sym_model.specs.CoreLaws.{ProducesNarrowly}
use Rattle.sym_model.specs.Cores.{core_of_sub}
use Rattle.sym_model.specs.Laws.{growth}
use Rattle.sym_model.specs.Lists.{Each}
use Rattle.sym_model.specs.Plain.{is_list_of_texts, IsNarrowWithin, IsNarrowResult}
use Rattle.sym_model.specs.Pure.{PureSub, named, cell, shape, bound, dom, proto, gone, PureChunk, sub_terms, done}
use Rattle.sym_model.proofs.ListLaws.{same_some, each_append, each_to}

module _ (low high : ℤ) (cs : List PureChunk) (all : Each (IsNarrowChunk low high) cs) where
  abbrev NarrowBranches : PureChunk → Type 0
  NarrowBranches n = Each (IsNarrowBranch low high (IsNarrowResult low high)) (produced n cs)

  module _ (l p t : PureTerm) (narrow_l : IsNarrow low high l) (narrow_p : IsNarrow low high p) (narrow_t : IsNarrow low high t) where
    abbrev n : PureChunk
    n = record { loc = l; sub = named p; val = t }

    -- ---- beside a chunk

    unless_by : (b : Bool) (d : PureTerm) → IsTrue (is_list_of_texts d) → AreDecided low high (if b then always else listed p d)
    unless_by true d are = (tt, tt)
    unless_by false d are = listed_decided low high p d narrow_p are

    beside_by : (c : PureChunk) → IsNarrowChunk low high c → (s : PureSub) → c.sub ≡ s → AreDecided low high (name_fits p s c.val)
    beside_by c is (named q) e = other_decided low high p q narrow_p (name_at low high c q e is)
    beside_by c is shape e = unless_by (needs_form c.val) c.val (texts_at_shape low high c e is)
    beside_by c is dom e = unless_by (needs_form c.val) c.val (texts_at_dom low high c e is)
    beside_by c is (cell i) e = (tt, tt)
    beside_by c is bound e = (tt, tt)
    beside_by c is proto e = (tt, tt)
    beside_by c is gone e = tt

    beside_decided : (c : PureChunk) → IsNarrowChunk low high c → AreDecided low high (fits_beside n c)
    beside_decided c is = beside_by c is c.sub refl

    closed_by : (b : Bool) (x : Alternatives) → AreDecided low high x → AreDecided low high (if b then never else x)
    closed_by true x decided = tt
    closed_by false x decided = decided

    closed_decided : (c : PureChunk) → IsNarrowChunk low high c → AreDecided low high (fits_closed n c)
    closed_decided c is = closed_by (has_open_names c.sub c.val) (fits_beside n c) (beside_decided c is)

    opened_by : (c : PureChunk) → IsNarrowChunk low high c → (s : PureSub) → c.sub ≡ s → AreDecided low high (opened_there l c.loc s c.val)
    opened_by c is shape e = form_decided low high c.val (same l c.loc) (texts_at_shape low high c e is)
    opened_by c is dom e = form_decided low high c.val (same l c.loc) (texts_at_dom low high c e is)
    opened_by c is (named q) e = tt
    opened_by c is (cell i) e = tt
    opened_by c is bound e = tt
    opened_by c is proto e = tt
    opened_by c is gone e = tt

    -- ---- branches

    stand_decided : (f : PureChunk → Alternatives) → ((c : PureChunk) → IsNarrowChunk low high c → AreDecided low high (f c)) → AreDecided low high (may_stand n f cs)
    stand_decided f decided =
        both_shaped (reading low high) (is_right l (named p) t) (all_by_place l f cs)
        (both_shaped (reading low high) (of_kind l Kind.Sym) (of_kind p Kind.Str) (kind_shaped (reading low high) l Kind.Sym narrow_l refl) (kind_shaped (reading low high) p Kind.Str narrow_p refl))
        (by_place_decided low high l narrow_l f decided cs all)

    added_narrow : (when : Alternatives) → AreDecided low high when → Each (IsNarrowBranch low high (IsNarrowResult low high)) (added n cs when)
    added_narrow when decided =
        narrow_branches low high (IsNarrowResult low high) when (cs ++ n ∷ []) (done true_term) decided
        (each_append (IsNarrowChunk low high) cs (n ∷ []) all (record { places = (narrow_l, (narrow_p, tt)); described = tt; held = (narrow_t, tt) }, tt)) (refl, refl)

    name_produced : NarrowBranches n
    name_produced =
        each_append (IsNarrowBranch low high (IsNarrowResult low high)) (added n cs (may_stand n (fits_closed n) cs)) (added n cs (both (any (opened_at l) cs) (may_stand n (fits_beside n) cs)))
        (added_narrow (may_stand n (fits_closed n) cs) (stand_decided (fits_closed n) closed_decided))
        (added_narrow (both (any (opened_at l) cs) (may_stand n (fits_beside n) cs))
        (both_shaped (reading low high) (any (opened_at l) cs) (may_stand n (fits_beside n) cs)
        (any_shaped (reading low high) (opened_at l) cs (each_to (IsNarrowChunk low high) (λ c. AreDecided low high (opened_at l c)) cs (λ c is. opened_by c is c.sub refl) all))
        (stand_decided (fits_beside n) beside_decided)))

  by_sub : (l : PureTerm) (s : PureSub) (t : PureTerm) → core_of_sub s ≡ Core.Prop → Each (IsNarrow low high) ((l ∷ sub_terms s) ++ outs_at s t) → NarrowBranches (record { loc = l; sub = s; val = t })
  by_sub l (named p) t is narrow = name_produced l p t narrow.0 narrow.1.0 narrow.1.1.0
  by_sub l (cell i) t is narrow = absurd (cc)
  by_sub l shape t is narrow = absurd (cc)
  by_sub l bound t is narrow = absurd (cc)
  by_sub l dom t is narrow = absurd (cc)
  by_sub l proto t is narrow = absurd (cc)
  by_sub l gone t is narrow = absurd (cc)

-- `prop` is produced narrowly
pub produces_narrowly : (name : List ℕ) (n : PureChunk) (cs : List PureChunk) → core_of name ≡ Some (core_of_sub n.sub) → ProducesNarrowly terms_of name (n.loc ∷ sub_terms n.sub) (outs_at n.sub n.val) cs (produced n cs)
produces_narrowly name n cs is_core low high is_prop around_zero state narrow =
    by_sub (low -ℤ growth) (high +ℤ growth) cs (narrow_chunks (low -ℤ growth) (high +ℤ growth) cs (state_wider low high (terms_of cs) state)) n.loc n.sub n.val
    (same_some (sym is_core ∙ named_prop name is_prop))
    (each_to (IsNarrowWithin low high) (IsNarrowWithin (low -ℤ growth) (high +ℤ growth)) ((n.loc ∷ sub_terms n.sub) ++ outs_at n.sub n.val) (narrow_wider low high) narrow)
