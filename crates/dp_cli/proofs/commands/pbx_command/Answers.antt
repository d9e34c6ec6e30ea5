use Rattle.clap.specs.Simple.{with_subcommand}
use Rattle.dp_cli.specs.CommandLine.{bare_app, check_app, list_app, match_app, run_app, debug_app, test_app, audit_app, diff_app, graph_app, reach_app, explain_app}
use Rattle.dp_cli.proofs.commands.pbx_command.Goals as goal

-- each command is added to the earlier ones
pub returns : goal.returns
returns c =
    let step_1 = with_subcommand bare_app check_app.top in
    let step_2 = with_subcommand step_1 list_app.top in
    let step_3 = with_subcommand step_2 match_app.top in
    let step_4 = with_subcommand step_3 run_app.top in
    let step_5 = with_subcommand step_4 debug_app.top in
    let step_6 = with_subcommand step_5 test_app.top in
    let step_7 = with_subcommand step_6 audit_app.top in
    let step_8 = with_subcommand step_7 diff_app.top in
    let step_9 = with_subcommand step_8 graph_app.top in
    let step_10 = with_subcommand step_9 reach_app.top in
    c.with_command.ensures step_10 explain_app
    (c.with_command-pbx-10.ensures step_9 reach_app
    (c.with_command-pbx-9.ensures step_8 graph_app
    (c.with_command-pbx-8.ensures step_7 diff_app
    (c.with_command-pbx-7.ensures step_6 audit_app
    (c.with_command-pbx-6.ensures step_5 test_app
    (c.with_command-pbx-5.ensures step_4 debug_app
    (c.with_command-pbx-4.ensures step_3 run_app
    (c.with_command-pbx-3.ensures step_2 match_app
    (c.with_command-pbx-2.ensures step_1 list_app
    (c.with_command-pbx.ensures bare_app check_app c.bare_command-pbx.ensures c.check_command.ensures)
    c.list_command.ensures) c.match_command.ensures) c.run_command.ensures) c.debug_command.ensures) c.test_command.ensures) c.audit_command.ensures)
    c.diff_command.ensures) c.graph_command.ensures) c.reach_command.ensures) c.explain_command.ensures
