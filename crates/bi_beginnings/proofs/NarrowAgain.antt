-- What comes of a path that missed a narrow name: narrow beginnings, which are larger.
use Rattle.std.proofs.Common.{◌≡◌, ◌⊎◌, ⊎_elim, ℕ, ◌+◌, ◌^◌, ◌<◌, pos, neg_ℤ, List, [], ◌∷◌, ◌++◌, map, length, IsTrue, refl, sym, ap, subst, ◌∙◌, arith}
use Rattle.std.specs.List.{list_all}
use Rattle.std.specs.Prelude.{codes}
use Rattle.std.specs.Str.{bytes_eq}
use Rattle.std.proofs.lemmas.List.{length-append}
use Rattle.fresh_atoms.specs.Laws.{is_any_or_list}
use Rattle.mem_model.specs.declared.keys.MemoryName.{MemoryName}
use Rattle.mem_model.specs.Actions.{Actions}
use Rattle.pure_terms.specs.declared.variables.Sort.{Sort}
use Rattle.pure_terms.specs.Meaning.{IsOver}
use Rattle.pure_terms.specs.Pure.{PureTerm, PureAtom}
use Rattle.sym_model.specs.Fixing.{IsFixOf, FixLaw}
use Rattle.sym_model.specs.Laws.{IsDecidedWithin}
use Rattle.sym_model.specs.Lists.{Each, IsAmong}
use Rattle.sym_model.specs.Plain.{IsNarrowWithin}
use Rattle.sym_model.specs.Pure.{PureUse, PureKey, PureFix, sub_terms}
use Rattle.sym_model.proofs.ListLaws.{each_append, each_to, one_with}
use Rattle.bi_beginnings.specs.Beginnings.{variables_from, PureBeginning}
use Rattle.bi_beginnings.specs.Fixing.{IsFixOver, IsAtNewSymbol, IsKeyAtNewSymbol, with_fix, IsCarried, Carries}
use Rattle.bi_beginnings.specs.Narrowly.{IsAny, IsNarrowCoreUse, IsNarrowBeginning, IsKeyOver, IsLarger}
use Rattle.bi_beginnings.proofs.Fixed.{not_at_new_symbol}

each_among : {A : Type 0} (P : A → Type 0) (xs ys : List A) → Each P ys → Each (λ x. IsAmong x ys) xs → Each P xs
each_among P [] ys all among = tt
each_among P (x ∷ xs) ys all among = (one_with P (λ y. y ≡ x) ys all among.0 (λ y is same. subst P same is), each_among P xs ys all among.1)

-- ---- keys

-- where the fixes aren't all at new symbols, the key names only what was there at the beginning
pub key_over : (memory : MemoryName) (m : Actions) (old vars : List Sort) (key : PureKey) (fs : List PureFix) → FixLaw memory m key fs → ¬ (Each (IsAtNewSymbol vars) fs) → IsKeyAtNewSymbol memory vars key ⊎ IsKeyOver old key → IsKeyOver old key
key_over memory m old vars key fs laws some at = ⊎_elim (λ new. absurd (not_at_new_symbol memory m vars key fs laws some new)) (λ over. over) at

module _ (n : ℕ) where
  abbrev IsNarrow : PureTerm → Type 0
  IsNarrow t = IsNarrowWithin (neg_ℤ (pos n)) (pos n) t

  abbrev IsDecided : PureAtom → Type 0
  IsDecided a = IsDecidedWithin (neg_ℤ (pos n)) (pos n) a

  -- what is a fix of a narrow key
  abbrev IsNarrowFix : PureFix → Type 0
  IsNarrowFix f = IsTrue (bytes_eq f.core (codes "prop")) × Each IsNarrow f.ins × (f.outs ≡ Sort.Any ∷ [])

  -- ---- fixes

  module _ (memory : MemoryName) (vars : List Sort) (key : PureKey) (over : IsKeyOver vars key) where
    fix_over : (f : PureFix) → IsFixOf memory key f → IsNarrowFix f → IsFixOver memory vars f
    fix_over f fix narrow = record {
      numbers = record { core = fix.core; of_memory = fix.of_memory; ins_number = fix.ins; outs_number = fix.outs };
      ins_over = each_among (IsOver vars) f.ins (key.loc ∷ sub_terms key.sub) over fix.among;
      sorts = ap (list_all is_any_or_list) narrow.2;
    }

    -- a beginning may have a use for each fix of a narrow key over its table
    pub fixes_over : (fs : List PureFix) → Each (IsFixOf memory key) fs → Each IsNarrowFix fs → Each (IsFixOver memory vars) fs
    fixes_over [] fixes narrow = tt
    fixes_over (f ∷ fs) fixes narrow = (fix_over f fixes.0 narrow.0, fixes_over fs fixes.1 narrow.1)

  -- ---- beginnings

  module _ (bound : ℕ) (b : PureBeginning) (conds : List PureAtom) (c : PureBeginning) (is : IsNarrowBeginning n b) (few : length b.vars < 2 ^ 39) (decided : Each IsDecided conds)
      (carries : Carries b conds c) (within : length b.uses < bound) where
    module _ (f : PureFix) (narrow : IsNarrowFix f) where
      abbrev new_use : PureUse
      new_use = record { core = f.core; ins = f.ins; outs = variables_from (length c.vars) f.outs }

      one_more : c.vars ++ f.outs ≡ b.vars ++ Sort.Any ∷ []
      one_more i = carries.table i ++ narrow.2 i

      longer : length (c.vars ++ f.outs) ≡ length b.vars + 1
      longer = ap length one_more ∙ length-append b.vars (Sort.Any ∷ [])

      new_is_narrow : IsNarrowCoreUse n new_use
      new_is_narrow = record {
        of_name = narrow.0;
        terms = each_append IsNarrow f.ins (variables_from (length c.vars) f.outs) narrow.1
            (subst (λ (sorts : List Sort). Each IsNarrow (variables_from (length c.vars) sorts)) (sym narrow.2) ((refl, refl), tt));
      }

      narrow_with : IsNarrowBeginning n (with_fix c f)
      narrow_with = record {
        sorts = subst (Each IsAny) (sym one_more) (each_append IsAny b.vars (Sort.Any ∷ []) is.sorts (refl, tt));
        few = let more : length (c.vars ++ f.outs) ≡ length b.vars + 1 = longer in omega (arith, more, few);
        uses = each_append (IsNarrowCoreUse n) c.uses (new_use ∷ []) (subst (Each (IsNarrowCoreUse n)) (sym carries.same_uses) is.uses) (new_is_narrow, tt);
        decided = each_among IsDecided c.conds conds decided (each_to (IsCarried b.vars conds) (λ a. IsAmong a conds) c.conds (λ a carried. carried.1) carries.carried);
      }

      larger_with : IsLarger bound b (with_fix c f)
      larger_with =
          let same : length c.uses ≡ length b.uses = ap length carries.same_uses in
          let one : length (c.uses ++ new_use ∷ []) ≡ length c.uses + 1 = length-append c.uses (new_use ∷ []) in
          record { uses = omega (arith, same, one); vars = longer; within = omega (arith, same, one, within) }

    -- the beginnings that have a use more for a fix of a narrow key
    pub all_narrow_with : (fs : List PureFix) → Each IsNarrowFix fs → Each (λ d. IsNarrowBeginning n d × IsLarger bound b d) (map (with_fix c) fs)
    all_narrow_with [] narrow = tt
    all_narrow_with (f ∷ fs) narrow = ((narrow_with f narrow.0, larger_with f narrow.0), all_narrow_with fs narrow.1)
