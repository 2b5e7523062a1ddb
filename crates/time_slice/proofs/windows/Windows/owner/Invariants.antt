use Rattle.std.proofs.Common.{◌≡◌, drop}
use Rattle.slice_spec.specs.Windows.{owner_of}
use Rattle.time_slice.specs.Views.{windows_in}
use Rattle.time_slice.proofs.windows.Windows.owner.Given as goal

-- the windows that are left decide the owner
abbrev pub invariant-loop-window : goal.invariant-loop-window
invariant-loop-window l = owner_of (windows_in (drop l.window-index l.window-items)) l.offset ≡ owner_of (windows_in l.window-items) l.offset
