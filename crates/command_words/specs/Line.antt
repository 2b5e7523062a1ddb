-- The command line as `clap` reads it.
use Rattle.std.specs.Prelude.{true, codes, Some}
use Rattle.clap.specs.Words.{App, Rule, Text, new_app, new_rule, with_rule, with_subcommand}
use Rattle.clap.specs.declared.builder.ArgAction.TheVariants.{Set}

-- a required value
abbrev pub value_rule : Text → Rule
value_rule id = record (new_rule id) { required = true; action = Some Set }

-- a command with one required value
abbrev pub valued : Text → Text → App
valued name id = with_rule (record (new_app name) { top = record (new_app name).top { disable_help_flag = true } }) (value_rule id)

-- a command with two required values, in this order
abbrev pub valued_twice : Text → Text → Text → App
valued_twice name first second = with_rule (valued name first) (value_rule second)

abbrev pub bare_line : App
bare_line = record (new_app (codes "ipencap")) {
  top = record (new_app (codes "ipencap")).top {
    no_binary_name = true;
    disable_help_flag = true;
    disable_help_subcommand = true;
    disable_version_flag = true;
    subcommand_required = true;
  };
}

-- with one more command
abbrev pub and_command : App → Text → Text → App
and_command line name id = with_subcommand line (valued name id).top

abbrev pub command_line : App
command_line =
    with_subcommand (and_command (and_command (and_command (and_command (and_command (and_command (and_command (and_command (and_command bare_line
    (codes "send") (codes "SETTINGS")) (codes "receive") (codes "SETTINGS")) (codes "ule") (codes "PID"))
    (codes "check") (codes "SETTINGS")) (codes "sample") (codes "NUMBER"))
    (codes "tables") (codes "SETTINGS")) (codes "find") (codes "PID"))
    (codes "bridge") (codes "CARRIER")) (codes "unbridge") (codes "CARRIER"))
    (valued_twice (codes "relay") (codes "IN") (codes "OUT")).top
