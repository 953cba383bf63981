-- What inference keeps as it goes on.
use Rattle.std.proofs.Common.{◌≡◌, ℕ, length, List, [], ◌∷◌, ◌++◌, map, Option, Some, None, Result, Ok, Err, OnOk, IfSome, refl, sym, ap, subst}
use Rattle.std.specs.Option.{option_map, option_or}
use Rattle.std.proofs.lemmas.List.{append-nil}
use Rattle.gil_values.specs.Pure.{PureValue}
use Rattle.gil_syntax.specs.Pure.{PureProc, PureParts}
use Rattle.mem_model.specs.declared.keys.MemoryName.{MemoryName}
use Rattle.mem_model.specs.Actions.{Actions}
use Rattle.mem_model.specs.Heaps.{Heap}
use Rattle.pure_terms.specs.declared.queries.Query.{Query}
use Rattle.pure_terms.specs.Fragment.{InFragment}
use Rattle.pure_terms.specs.View.{atoms_view}
use Rattle.sym_model.specs.Cores.{TakesBoth}
use Rattle.sym_model.specs.Lists.{Each}
use Rattle.sym_model.specs.Terms.{AreEachOver}
use Rattle.sym_model.proofs.ListLaws.{each_append}
use Rattle.sym_paths.specs.Pure.{PurePath}
use Rattle.bi_beginnings.specs.Beginnings.{any_for_each, first_beginning, PureBeginning, IsBeginning, BeginsExactly}
use Rattle.bi_beginnings.proofs.Tables.{first_named}
use Rattle.bi_specifications.specs.Specified.{IsTrulyFound, IsEntryOf}
use Rattle.inferred_specs.specs.Inferred.{PureFound}
use Rattle.biabduce.specs.Sound.{PureAsked, PureInference, IsSound, first_asked}
use Rattle.biabduce.specs.View.{asked_view}

-- an element in the middle, and one at the end
pub each_middle : {A : Type 0} (P : A → Type 0) (xs : List A) (y : A) (ys : List A) → Each P (xs ++ y ∷ ys) → P y
each_middle P [] y ys all = all.0
each_middle P (x ∷ xs) y ys all = each_middle P xs y ys all.1

pub each_before : {A : Type 0} (P : A → Type 0) (xs ys : List A) → Each P (xs ++ ys) → Each P xs
each_before P [] ys all = tt
each_before P (x ∷ xs) ys all = (all.0, each_before P xs ys all.1)

pub on_ok_both : {T E P Q U : Type 0} (r : Result T E) → (P → Q → U) → OnOk r P → OnOk r Q → OnOk r U
on_ok_both (Ok x) f first second = f first second
on_ok_both (Err e) f first second = tt

pub seen_back : (o : Option Query) → IfSome (option_map asked_view o) (λ kept. ¬ InFragment kept.conds) → IfSome o (λ x. ¬ InFragment (atoms_view x.query))
seen_back (Some x) outside = outside
seen_back None outside = tt

pub each_pushed : {A B : Type 0} (P : B → Type 0) (f : A → B) (xs : List A) (x : A) → Each P (map f xs) → P (f x) → Each P (map f (xs ++ x ∷ []))
each_pushed P f [] x before here = (here, tt)
each_pushed P f (y ∷ ys) x before here = (before.0, each_pushed P f ys x before.1 here)

module _ (p : PureParts) (memory : MemoryName) (m : Actions) (q : PureProc) (n : ℕ) where
  pub is_first : IsBeginning memory q.params (first_beginning q)
  is_first = record {
    table = record { others = []; table = sym (append-nil (any_for_each q.params)); sorts = refl };
    uses = tt;
    conds = tt;
    named = first_named q.params [];
  }

  pub first_sound : IsSound p memory m q n (record { left = first_beginning q ∷ []; founds = []; undecided = None })
  first_sound = record { left = (is_first, tt); founds = tt; undecided = tt }

  pub begun_sound : (i : PureInference) (more : List PureBeginning) → IsSound p memory m q n i → Each (IsBeginning memory q.params) more
      → IsSound p memory m q n (record i { left = i.left ++ more })
  begun_sound i more sound are = record {
    left = each_append (IsBeginning memory q.params) i.left more sound.left are;
    founds = sound.founds;
    undecided = sound.undecided;
  }

  pub found_sound : (i : PureInference) (found : PureFound) → IsSound p memory m q n i → IsTrulyFound p memory m q.name n found
      → IsSound p memory m q n (record i { founds = i.founds ++ found ∷ [] })
  found_sound i found sound is = record {
    left = sound.left;
    founds = each_append (IsTrulyFound p memory m q.name n) i.founds (found ∷ []) sound.founds (is, tt);
    undecided = sound.undecided;
  }

  first_outside : (o : Option PureAsked) (x : PureAsked) → IfSome o (λ kept. ¬ InFragment kept.conds) → ¬ InFragment x.conds
      → IfSome (first_asked o x) (λ kept. ¬ InFragment kept.conds)
  first_outside None x none outside = outside
  first_outside (Some kept) x some outside = some

  pub left_sound : (i : PureInference) (x : PureAsked) → IsSound p memory m q n i → ¬ InFragment x.conds
      → IsSound p memory m q n (record i { undecided = first_asked i.undecided x })
  left_sound i x sound outside = record {
    left = sound.left;
    founds = sound.founds;
    undecided = first_outside i.undecided x sound.undecided outside;
  }

  -- the last beginning is taken out
  pub taken_sound : (i : PureInference) (rest : List PureBeginning) (b : PureBeginning) → i.left ≡ rest ++ b ∷ [] → IsSound p memory m q n i
      → IsBeginning memory q.params b × IsSound p memory m q n (record i { left = rest })
  taken_sound i rest b is sound =
      let all = subst (Each (IsBeginning memory q.params)) is sound.left in (
        each_middle (IsBeginning memory q.params) rest b [] all,
        record { left = each_before (IsBeginning memory q.params) rest (b ∷ []) all; founds = sound.founds; undecided = sound.undecided },
      )

  -- there was none to take out
  pub over_sound : (i : PureInference) (rest : List PureBeginning) → i.left ≡ rest → IsSound p memory m q n i → IsSound p memory m q n (record i { left = rest })
  over_sound i rest is sound = record { left = subst (Each (IsBeginning memory q.params)) is sound.left; founds = sound.founds; undecided = sound.undecided }

  -- ---- the same of what a call made of inference

  pub after_begun : (i j : PureInference) (more : List PureBeginning) → j ≡ record i { left = i.left ++ more } → IsSound p memory m q n i
      → Each (IsBeginning memory q.params) more → IsSound p memory m q n j
  after_begun i j more is sound are = subst (IsSound p memory m q n) (sym is) (begun_sound i more sound are)

  pub after_found : (i j : PureInference) (found : PureFound) → j ≡ record i { founds = i.founds ++ found ∷ [] } → IsSound p memory m q n i
      → IsTrulyFound p memory m q.name n found → IsSound p memory m q n j
  after_found i j found is sound truly = subst (IsSound p memory m q n) (sym is) (found_sound i found sound truly)

  pub after_left : (i j : PureInference) (x : PureAsked) → j ≡ record i { undecided = first_asked i.undecided x } → IsSound p memory m q n i
      → ¬ InFragment x.conds → IsSound p memory m q n j
  after_left i j x is sound outside = subst (IsSound p memory m q n) (sym is) (left_sound i x sound outside)

  any_outside : (o later : Option PureAsked) → IfSome o (λ kept. ¬ InFragment kept.conds) → IfSome later (λ kept. ¬ InFragment kept.conds)
      → IfSome (option_or o later) (λ kept. ¬ InFragment kept.conds)
  any_outside (Some kept) later first second = first
  any_outside None later first second = second

  seen_outside : (o : Option Query) → IfSome o (λ x. ¬ InFragment (atoms_view x.query)) → IfSome (option_map asked_view o) (λ kept. ¬ InFragment kept.conds)
  seen_outside (Some x) outside = outside
  seen_outside None outside = tt

  pub after_any : (i j : PureInference) (o : Option Query) → j ≡ record i { undecided = option_or i.undecided (option_map asked_view o) } → IsSound p memory m q n i
      → IfSome o (λ x. ¬ InFragment (atoms_view x.query)) → IsSound p memory m q n j
  after_any i j o is sound outside = subst (IsSound p memory m q n) (sym is) (record {
    left = sound.left;
    founds = sound.founds;
    undecided = any_outside i.undecided (option_map asked_view o) sound.undecided (seen_outside o outside);
  })

-- ---- where paths begin

-- what is told of where a path of a beginning begins
pub entry_of_uses : {S : Type 0} (memory : MemoryName) (stands : S → List PureValue → Heap → Type 0) (params : List (List ℕ)) (b : PureBeginning) (start : PurePath S) → IsBeginning memory params b → BeginsExactly stands b start
    → IsEntryOf memory stands params start (record { count = length b.vars; uses = b.uses })
entry_of_uses memory stands params b start is exact = record {
  count = sym (ap length exact.table);
  uses = subst (λ xs. Each (λ u. TakesBoth memory u.core u.ins u.outs × AreEachOver xs (u.ins ++ u.outs)) b.uses) (sym exact.table) is.uses;
  named = is.named;
  lists = exact.lists;
  back = exact.back;
}
