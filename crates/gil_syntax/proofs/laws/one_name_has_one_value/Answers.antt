use Rattle.gil_syntax.proofs.laws.one_name_has_one_value.Goals as goal

pub returns : goal.returns
returns c s xs ys vs ws i j x v w first second at_i is_v at_j is_w =
    let one = first i x v at_i is_v in
    let other = second j x w at_j is_w in
    cc
