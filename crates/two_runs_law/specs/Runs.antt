-- Runs of which input and output, settings and files are known. An object that tells nothing, such as a pipe, is known to nobody: `held` is None there, and no
-- run over it is one of these.
use Rattle.std.specs.Prelude.{◌≡◌, ◌⊎◌, ℕ, true, List, ◌++◌, Some, ⊤}
use Rattle.wire_spec.specs.Content.{File}
use Rattle.plan_spec.specs.Plan.{PlanFields}
use Rattle.pcap_file.specs.Capture.{capture_text}
use Rattle.capture_files.specs.Files.{files_from}
use Rattle.command_words.specs.Words.{AsksForBridge}
use Rattle.command_words.specs.declared.carrier.Carrier.{Carrier}
use Rattle.ipencap_engine.specs.World.{World}
use Rattle.ipencap_engine.specs.Jobs.{Job, to_send, to_receive, to_relay, to_bridge, to_unbridge}
use Rattle.ipencap_engine.specs.Runs.{Runs}
use Rattle.ipencap_engine.specs.declared.status.Status.{Status}
use Rattle.ipencap_engine.specs.declared.status.Status.TheVariants as status

-- the promises of a run, but for those that say which objects are the very ones from before
abbrev pub HasRun : Job → Status → List ℕ → World → World → Type 0
HasRun job end line before after = Runs job end line before after (λ object. ⊤)

-- the output of a run had these bytes added
pub record PutsOut (before after : World) (bytes : List ℕ) : Type 0 where
  pub held : List ℕ
  pub held_before : before.output.held ≡ Some held
  pub held_after : after.output.held ≡ Some (held ++ bytes)

-- the rack of a run had these files added
pub record AddsKnown (before after : World) (files : List File) : Type 0 where
  pub others : List File
  pub files_before : before.rack.files ≡ Some others
  pub files_after : after.rack.files ≡ Some (others ++ files)

-- `send` ran with these settings on this capture, ended Done or Capture, and put these bytes out
pub record IsSendRun (settings capture bytes : List ℕ) : Type 0 where
  pub name : List ℕ
  pub end : Status
  pub line : List ℕ
  pub before : World
  pub after : World
  pub runs : HasRun (to_send name) end line before after
  pub ended : (end ≡ status.Done) ⊎ (end ≡ status.Capture)
  pub settings_known : after.shelf.file name ≡ Some settings
  pub capture_known : before.input.left ≡ Some capture
  pub output : PutsOut before after bytes

-- `receive` ran with these settings on this recording, ended Done, and added these files
pub record IsReceiveRun (settings recording : List ℕ) (files : List File) : Type 0 where
  pub name : List ℕ
  pub line : List ℕ
  pub before : World
  pub after : World
  pub runs : HasRun (to_receive name) status.Done line before after
  pub settings_known : after.shelf.file name ≡ Some settings
  pub recording_known : before.input.left ≡ Some recording
  pub rack : AddsKnown before after files

-- `relay` ran with these inner and outer settings on this recording, ended Done, and put these bytes out
pub record IsRelayRun (inner outer recording bytes : List ℕ) : Type 0 where
  pub inner_name : List ℕ
  pub outer_name : List ℕ
  pub line : List ℕ
  pub before : World
  pub after : World
  pub runs : HasRun (to_relay inner_name outer_name) status.Done line before after
  pub inner_known : after.shelf.file inner_name ≡ Some inner
  pub outer_known : after.shelf.file outer_name ≡ Some outer
  pub recording_known : before.input.left ≡ Some recording
  pub output : PutsOut before after bytes

-- the words of a run asked for `bridge` on this carrier; it ran on this capture of Ethernet frames, ended Done or Capture, and put these bytes out
pub record IsBridgeRun (carrier : Carrier) (capture bytes : List ℕ) : Type 0 where
  pub words : List (List ℕ)
  pub asked : AsksForBridge words carrier
  pub end : Status
  pub line : List ℕ
  pub before : World
  pub after : World
  pub runs : HasRun (to_bridge carrier) end line before after
  pub ended : (end ≡ status.Done) ⊎ (end ≡ status.Capture)
  pub capture_known : before.input.left ≡ Some capture
  pub output : PutsOut before after bytes

-- `unbridge` ran on this carrier and this recording, ended Done, and added these files
pub record IsUnbridgeRun (carrier : Carrier) (recording : List ℕ) (files : List File) : Type 0 where
  pub line : List ℕ
  pub before : World
  pub after : World
  pub runs : HasRun (to_unbridge carrier) status.Done line before after
  pub recording_known : before.input.left ≡ Some recording
  pub rack : AddsKnown before after files

-- the files are the captures of what the services deliver, one each, flushed
abbrev pub AreCapturesOf : PlanFields → (ℕ → List (List ℕ)) → List File → Type 0
AreCapturesOf plan delivered files = files ≡ files_from true 0 (λ k. capture_text (delivered k)) plan.services
