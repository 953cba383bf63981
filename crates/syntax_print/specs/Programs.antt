-- Printed programs: a command on each line; then each specification and each predicate on a line of its own. Every line
-- ends with LF. The numbers of the commands are not printed.
use Rattle.std.specs.Prelude.{ℕ, List, ◌++◌, codes}
use Rattle.std.specs.List.{flat_map}
use Rattle.gil_syntax.specs.Pure.{PureNumberedCommand, PureProc, PureSpec, PurePredDef, PureParts}
use Rattle.syntax_print.specs.Assertions.{printed_params, printed_variables, printed_block, printed_posts, printed_blocks, behind_semicolon}
use Rattle.syntax_print.specs.Commands.{printed_names, printed_command}

-- the line of a command
abbrev pub printed_statement : PureNumberedCommand → List ℕ
printed_statement c = printed_command c.command ++ codes ";\n"

-- proc name(x, ..) {
-- command;
-- }
abbrev pub printed_proc : PureProc → List ℕ
printed_proc q =
    codes "proc " ++ q.name ++ codes "(" ++ printed_names q.params ++ codes ") {\n"
    ++ flat_map printed_statement q.body ++ codes "}\n"

-- spec name(x: sort, ..) [#x: sort, ..] { precondition } { postcondition } .. throw { error postcondition } ..
abbrev pub printed_spec : PureSpec → List ℕ
printed_spec s =
    codes "spec " ++ s.name ++ codes "(" ++ printed_params s.params ++ codes ") " ++ printed_variables s.logicals
    ++ codes " " ++ printed_block s.pre ++ printed_posts s.posts s.errors ++ codes "\n"

-- pred name(x: sort, ..; x: sort, ..) [#x: sort, ..] { case } ..
abbrev pub printed_pred : PurePredDef → List ℕ
printed_pred d =
    codes "pred " ++ d.name ++ codes "(" ++ printed_params d.ins ++ codes ";" ++ behind_semicolon printed_params d.outs ++ codes ") "
    ++ printed_variables d.logicals ++ codes " " ++ printed_blocks d.cases ++ codes "\n"

abbrev pub printed_program : PureParts → List ℕ
printed_program p = flat_map printed_proc p.procs ++ flat_map printed_spec p.specs ++ flat_map printed_pred p.preds
