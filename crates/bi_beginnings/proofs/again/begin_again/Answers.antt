use Rattle.std.proofs.Common.{◌<◌, ◌≤◌, ◌++◌, pos, neg_ℤ, length, sym, subst, ◌∙◌, true≢false, arith}
use Rattle.std.proofs.lemmas.List.{length-map}
use Rattle.pure_terms.specs.View.{atoms_view}
use Rattle.sym_model.specs.Lists.{Each, OneOf, IsAmong}
use Rattle.sym_model.specs.View.{key_view, use_view, fixes_view}
use Rattle.sym_model.proofs.ListLaws.{each_to, each_map}
use Rattle.bi_beginnings.specs.Beginnings.{IsBeginning, Awaits}
use Rattle.bi_beginnings.specs.Fixing.{IsFixOver, with_fix, IsCarried, IsLed}
use Rattle.bi_beginnings.specs.Narrowly.{IsNarrowBeginning, IsLarger}
use Rattle.bi_beginnings.specs.View.{beginning_view}
use Rattle.bi_beginnings.proofs.Fixed.{each_led, not_at_new_symbol, none_new, fewer, awaited_again, fixed_are}
use Rattle.bi_beginnings.proofs.NarrowAgain.{key_over, fixes_over, all_narrow_with}
use Rattle.bi_beginnings.proofs.Taken.{none_named, key_placed, narrow_sub}
use Rattle.bi_beginnings.proofs.again.begin_again.Goals as goal

pub returns-then-are_at_new_symbols-clause-cover : goal.returns-then-are_at_new_symbols-clause-cover
returns-then-are_at_new_symbols-clause-cover g c = λ params is args whole counter missed.
    absurd
    (none_new g.M.Local.LocalMemory.memory g.M.Local.LocalMemory.actions params c.args.bound (beginning_view c.args.beginning.now) is c.args.path.now.vars (atoms_view c.args.path.now.conds) (key_view c.args.key.now) args whole counter missed
    (fixes_view c.in_ok-fixes.fixes) c.in_ok-fixes.ensures.laws (c.are_at_new_symbols.ensures.0 c.if-are_at_new_symbols.true))

pub returns-then-len-bound-clause-cover : goal.returns-then-len-bound-clause-cover
returns-then-len-bound-clause-cover g c = λ params is args whole counter missed.
    let counted = length-map c.args.beginning.now.uses use_view in
    let many : c.args.bound ≤ length (beginning_view c.args.beginning.now).uses = omega (arith, counted, c.len.ensures, c.if-len-bound.true) in
    absurd
    (fewer g.M.Local.LocalMemory.memory g.M.Local.LocalMemory.actions params c.args.bound (beginning_view c.args.beginning.now) is c.args.path.now.vars (atoms_view c.args.path.now.conds) (key_view c.args.key.now) args whole counter missed
    (fixes_view c.in_ok-fixes.fixes) c.in_ok-fixes.ensures.laws many)

pub returns-clause-beginnings : goal.returns-clause-beginnings
returns-clause-beginnings g c = λ params is.
    let memory = g.M.Local.LocalMemory.memory in
    let fs = fixes_view c.in_ok-fixes.fixes in
    let over = subst (λ m. Each (IsFixOver m c.args.beginning.now.vars) fs) c.name.ensures (c.are_fixes_over.ensures.0 c.if-not-are_fixes_over.false) in
    subst (Each (IsBeginning memory params)) (sym c.in_ok-with_each.ensures)
    (fixed_are memory params (beginning_view c.args.beginning.now) (atoms_view c.args.path.now.conds) is (beginning_view c.in_ok-carrying.carrying) c.in_ok-carrying.ensures.carries fs over)

pub returns-clause-cover : goal.returns-clause-cover
returns-clause-cover g c = λ params is args whole counter missed.
    let memory = g.M.Local.LocalMemory.memory in
    let fs = fixes_view c.in_ok-fixes.fixes in
    let over = subst (λ m. Each (IsFixOver m c.args.beginning.now.vars) fs) c.name.ensures (c.are_fixes_over.ensures.0 c.if-not-are_fixes_over.false) in
    subst (OneOf (Awaits params args whole counter c.args.bound)) (sym c.in_ok-with_each.ensures)
    (awaited_again memory g.M.Local.LocalMemory.actions params c.args.bound (beginning_view c.args.beginning.now) is c.args.path.now.vars (atoms_view c.args.path.now.conds) (key_view c.args.key.now) args whole counter missed
    fs c.in_ok-fixes.ensures.laws (beginning_view c.in_ok-carrying.carrying) c.in_ok-carrying.ensures.carries over)

pub returns-then-is_named_by_symbol-clause-cover : goal.returns-then-is_named_by_symbol-clause-cover
returns-then-is_named_by_symbol-clause-cover g c = λ params is args whole counter missed.
    absurd
    (none_named c.args.path.now.vars (missed.awaited.values ++ missed.more) missed.meets.proper (key_view c.args.key.now) (c.is_named_by_symbol.ensures.0 c.if-is_named_by_symbol.true) missed.missed missed.named)

pub returns-in-Some-clause-narrow : goal.returns-in-Some-clause-narrow
returns-in-Some-clause-narrow g c = λ keeps n misses.
    let memory = g.M.Local.LocalMemory.memory in
    let b = beginning_view c.args.beginning.now in
    let vars = c.args.path.now.vars in
    let key = key_view c.args.key.now in
    let at = key_placed memory n b vars (atoms_view c.args.path.now.conds) key misses (λ one. true≢false (sym (c.is_named_by_symbol.ensures.1 one) ∙ c.if-is_named_by_symbol.false)) in
    c.in-Some.ensures
    (key_over memory g.M.Local.LocalMemory.actions b.vars vars key (fixes_view c.in_ok-fixes.fixes) c.in_ok-fixes.ensures.laws
    (λ all. true≢false (sym (c.are_at_new_symbols.ensures.1 all) ∙ c.if-are_at_new_symbols.false)) at)

pub returns-then-not-are_fixes_over-clause-narrow : goal.returns-then-not-are_fixes_over-clause-narrow
returns-then-not-are_fixes_over-clause-narrow g c = λ keeps n misses.
    let memory = g.M.Local.LocalMemory.memory in
    let b = beginning_view c.args.beginning.now in
    let vars = c.args.path.now.vars in
    let conds = atoms_view c.args.path.now.conds in
    let key = key_view c.args.key.now in
    let fs = fixes_view c.in_ok-fixes.fixes in
    let at = key_placed memory n b vars conds key misses (λ one. true≢false (sym (c.is_named_by_symbol.ensures.1 one) ∙ c.if-is_named_by_symbol.false)) in
    let over = key_over memory g.M.Local.LocalMemory.actions b.vars vars key fs c.in_ok-fixes.ensures.laws
    (λ all. true≢false (sym (c.are_at_new_symbols.ensures.1 all) ∙ c.if-are_at_new_symbols.false)) at
    in
    let all = fixes_over n memory b.vars key over fs (c.in_ok-fixes.ensures.laws.uses (narrow_sub memory n b vars conds key misses)) (c.in_ok-fixes.ensures.narrow keeps (neg_ℤ (pos n)) (pos n) misses.narrow_key) in
    true≢false (sym (c.are_fixes_over.ensures.1 (subst (λ m. Each (IsFixOver m b.vars) fs) (sym c.name.ensures) all)) ∙ c.if-not-are_fixes_over.true)

pub returns-clause-narrow : goal.returns-clause-narrow
returns-clause-narrow g c = λ keeps n misses.
    let b = beginning_view c.args.beginning.now in
    let counted = length-map c.args.beginning.now.uses use_view in
    let within : length b.uses < c.args.bound = omega (arith, counted, c.len.ensures, c.if-len-bound.false) in
    subst (Each (λ d. IsNarrowBeginning n d × IsLarger c.args.bound b d)) (sym c.in_ok-with_each.ensures)
    (all_narrow_with n c.args.bound b (atoms_view c.args.path.now.conds) (beginning_view c.in_ok-carrying.carrying) misses.before misses.few misses.decided c.in_ok-carrying.ensures.carries within
    (fixes_view c.in_ok-fixes.fixes) (c.in_ok-fixes.ensures.narrow keeps (neg_ℤ (pos n)) (pos n) misses.narrow_key))

pub returns-then-len-bound-clause-nothing : goal.returns-then-len-bound-clause-nothing
returns-then-len-bound-clause-nothing g c = λ at.
    absurd
    (not_at_new_symbol g.M.Local.LocalMemory.memory g.M.Local.LocalMemory.actions c.args.path.now.vars (key_view c.args.key.now) (fixes_view c.in_ok-fixes.fixes) c.in_ok-fixes.ensures.laws
    (λ all. true≢false (sym (c.are_at_new_symbols.ensures.1 all) ∙ c.if-are_at_new_symbols.false)) at)

pub returns-clause-nothing : goal.returns-clause-nothing
returns-clause-nothing g c = λ at.
    absurd
    (not_at_new_symbol g.M.Local.LocalMemory.memory g.M.Local.LocalMemory.actions c.args.path.now.vars (key_view c.args.key.now) (fixes_view c.in_ok-fixes.fixes) c.in_ok-fixes.ensures.laws
    (λ all. true≢false (sym (c.are_at_new_symbols.ensures.1 all) ∙ c.if-are_at_new_symbols.false)) at)

pub returns-in-Some-clause-nothing : goal.returns-in-Some-clause-nothing
returns-in-Some-clause-nothing g c = λ at.
    not_at_new_symbol g.M.Local.LocalMemory.memory g.M.Local.LocalMemory.actions c.args.path.now.vars (key_view c.args.key.now) (fixes_view c.in_ok-fixes.fixes) c.in_ok-fixes.ensures.laws
    (λ all. true≢false (sym (c.are_at_new_symbols.ensures.1 all) ∙ c.if-are_at_new_symbols.false)) at

pub returns-then-not-are_fixes_over-clause-nothing : goal.returns-then-not-are_fixes_over-clause-nothing
returns-then-not-are_fixes_over-clause-nothing g c = λ at.
    not_at_new_symbol g.M.Local.LocalMemory.memory g.M.Local.LocalMemory.actions c.args.path.now.vars (key_view c.args.key.now) (fixes_view c.in_ok-fixes.fixes) c.in_ok-fixes.ensures.laws
    (λ all. true≢false (sym (c.are_at_new_symbols.ensures.1 all) ∙ c.if-are_at_new_symbols.false)) at

pub returns-clause-led : goal.returns-clause-led
returns-clause-led g c =
    let b = beginning_view c.in_ok-carrying.carrying in
    let conds = atoms_view c.args.path.now.conds in
    let says = c.in_ok-carrying.ensures in
    let Led = IsLed c.args.place.now c.args.path.now.choices conds in
    let led : Led b = record {
      there = says.there;
      chosen = says.chosen;
      carried = each_to (IsCarried c.args.beginning.now.vars conds) (λ a. IsAmong a conds) b.conds (λ a is. is.1) says.carries.carried;
    } in
    let fs = fixes_view c.in_ok-fixes.fixes in
    subst (Each Led) (sym c.in_ok-with_each.ensures) (each_map Led (with_fix b) fs (each_led c.args.place.now c.args.path.now.choices conds b led fs))
