use Rattle.std.proofs.Common.{◌≡◌, [], ◌∷◌, ◌++◌, true, false, inl, inr, sym, ap, subst, ◌∙◌}
use Rattle.sym_witness.specs.Numbering.{AreOthers}
use Rattle.sym_witness.proofs.Others.{seen, seen_there, not_seen, known_more, new_more}
use Rattle.sym_witness.proofs.numbering.add_other.Goals as goal

pub returns-then-is_among : goal.returns-then-is_among
returns-then-is_among c = λ symbols so_far.
    known_more symbols c.args.fresh.now c.args.free.now.items c.args.symbol so_far (inr (seen_there c.args.fresh.now c.args.symbol (sym c.is_among.ensures ∙ c.if-is_among.true)))

pub returns-then-is_among-2 : goal.returns-then-is_among-2
returns-then-is_among-2 c = λ symbols so_far.
    let there : seen c.args.free.now.items c.args.symbol ≡ true = ap (λ ns. seen ns c.args.symbol) (sym c.as_slice.ensures.value) ∙ sym c.is_among-2.ensures ∙ c.if-is_among-2.true in
    known_more symbols c.args.fresh.now c.args.free.now.items c.args.symbol so_far (inl (seen_there c.args.free.now.items c.args.symbol there))

pub returns : goal.returns
returns c = λ symbols so_far.
    let missing : seen c.args.free.now.items c.args.symbol ≡ false = ap (λ ns. seen ns c.args.symbol) (sym c.as_slice.ensures.value) ∙ sym c.is_among-2.ensures ∙ c.if-is_among-2.false in
    subst (AreOthers (symbols ++ c.args.symbol ∷ []) c.args.fresh.now) (sym c.in_ok-push.ensures.items)
    (new_more symbols c.args.fresh.now c.args.free.now.items c.args.symbol so_far (not_seen c.args.fresh.now c.args.symbol (sym c.is_among.ensures ∙ c.if-is_among.false))
    (not_seen c.args.free.now.items c.args.symbol missing))
