-- The command line, subcommand by subcommand.
use Rattle.std.proofs.Common.{◌≡◌, ℕ, ◌+◌, ◌<◌, List, length, take, get_or, fold, Result, Ok, Err, IfOk, IsOkAnd, ap, ap₂, sym, ◌∙◌}
use Rattle.std.specs.Borrow.{Bor}
use Rattle.std.proofs.lemmas.List.Sums.{fold_more}
use Rattle.clap.specs.Words.{App, app_of, with_subcommand}
use Rattle.clap.specs.declared.builder.command.Command.{Command}
use Rattle.command_words.specs.Line.{bare_line, and_command}

-- the line with a subcommand for each of these names and values
abbrev pub line_with : List (Bor (List ℕ) × Bor (List ℕ)) → App
line_with pairs = fold (λ line pair. and_command line pair.0.now pair.1.now) bare_line pairs

-- with one more subcommand
pub with_more : (pairs : List (Bor (List ℕ) × Bor (List ℕ))) (i : ℕ) (d : Bor (List ℕ) × Bor (List ℕ)) {more line : App} → i < length pairs → more ≡ and_command line (get_or pairs i d).0.now (get_or pairs i d).1.now → line ≡ line_with (take i pairs)
    → more ≡ line_with (take (i + 1) pairs)
with_more pairs i d fits made same =
    made
    ∙ (ap (λ (l : App). and_command l (get_or pairs i d).0.now (get_or pairs i d).1.now) same
    ∙ sym (fold_more (λ (line : App) (pair : Bor (List ℕ) × Bor (List ℕ)). and_command line pair.0.now pair.1.now) bare_line pairs i d fits))

-- with the last subcommand, where there was memory for that
pub with_last : {E F : Type 0} (whole : Result Command E) (made : Result Command F) (last : App) {before line : App} → IfOk whole (λ c. IsOkAnd made (λ m. app_of c ≡ with_subcommand before (app_of m).top)) → IfOk made (λ m. app_of m ≡ last)
    → before ≡ line → IfOk whole (λ c. app_of c ≡ with_subcommand line last.top)
with_last (Ok c) (Ok m) last is made_is same = is ∙ ap₂ with_subcommand same (ap (λ (a : App). a.top) made_is)
with_last (Ok c) (Err e) last is made_is same = absurd is
with_last (Err e) made last is made_is same = tt
