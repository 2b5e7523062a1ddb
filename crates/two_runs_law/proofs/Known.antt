-- What known outputs and racks had added.
use Rattle.std.proofs.Common.{◌≡◌, ℕ, List, ◌++◌, length, drop, refl, ap, sym, ◌∙◌, subst, Option, Some}
use Rattle.std.specs.Io.KnownBytes.{Appends}
use Rattle.std.proofs.lemmas.List.{drop_at}
use Rattle.wire_spec.specs.Content.{File}
use Rattle.capture_files.specs.Files.{AddsFiles}
use Rattle.ipencap_engine.specs.World.{World}
use Rattle.two_runs_law.specs.Runs.{PutsOut, AddsKnown}

-- the same before others
same_behind : {X : Type 0} (front xs ys : List X) → front ++ xs ≡ front ++ ys → xs ≡ ys
same_behind front xs ys same = sym (drop_at front xs (length front) refl) ∙ ap (drop (length front)) same ∙ drop_at front ys (length front) refl

pub put_out : (before after : World) (bytes text : List ℕ) → PutsOut before after bytes → Appends before.output.held after.output.held text → bytes ≡ text
put_out before after bytes text puts appends =
    same_behind puts.held bytes text
    (subst (λ (o : Option (List ℕ)). Appends (Some puts.held) o text) puts.held_after
    (subst (λ (o : Option (List ℕ)). Appends o after.output.held text) puts.held_before appends))

pub files_added : (before after : World) (files made : List File) → AddsKnown before after files → AddsFiles before.rack.files after.rack.files made → files ≡ made
files_added before after files made known adds =
    same_behind known.others files made
    (subst (λ (o : Option (List File)). AddsFiles (Some known.others) o made) known.files_after
    (subst (λ (o : Option (List File)). AddsFiles o after.rack.files made) known.files_before adds))
