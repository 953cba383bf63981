use Rattle.std.proofs.Common.{◌≡◌, map, sym, ap, subst, ◌∙◌}
use Rattle.std.specs.Prelude.{IfOk, Vec}
use Rattle.std.specs.declared.alloc.Global.{Global}
use Rattle.gil_values.specs.Pure.{to_list-from_list}
use Rattle.gil_values.specs.View.{value_view, values_view}
use Rattle.gil_values.proofs.Views.{value_view-List}
use Rattle.mem_model.specs.declared.keys.Key.{Key}
use Rattle.mem_model.specs.Tables.{texts_of, names_of, name_keys}
use Rattle.mem_model.proofs.names.keys_of_list.Goals as goal

pub returns-in-List : goal.returns-in-List
returns-in-List c =
    let names : texts_of (map value_view c.as_slice.result.now) ≡ names_of (value_view c.args.names.now) =
    ap texts_of (c.as_slice.ensures ∙ sym (to_list-from_list (values_view c.in-List.names)))
    ∙ ap names_of (sym (value_view-List c.in-List.names) ∙ ap value_view (sym c.in-List.is)) in
    subst (λ ps. IfOk c.keys_of_names.result (λ (ks : Vec Key Global). ks.items ≡ name_keys c.args.location ps)) names c.keys_of_names.ensures
