-- The line has the subcommands so far.
use Rattle.std.proofs.Common.{◌≡◌, take}
use Rattle.clap.specs.Words.{app_of}
use Rattle.command_words.proofs.Lines.{line_with}
use Rattle.command_words.proofs.line.whole_line.Given as goal

abbrev pub invariant-loop-name : goal.invariant-loop-name
invariant-loop-name l = app_of l.line ≡ line_with (take l.name-index l.name-items)
