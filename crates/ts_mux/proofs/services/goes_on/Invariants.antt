-- No version so far has datagrams of the service.
use Rattle.std.proofs.Common.{◌≡◌, ◌+◌, ◌-◌, length, ltb}
use Rattle.std.specs.List.{list_any, range_with_len}
use Rattle.ts_mux.specs.Services.{listed}
use Rattle.ts_mux.proofs.services.goes_on.Given as goal

abbrev pub invariant-loop-later : goal.invariant-loop-later
invariant-loop-later l =
    list_any (λ later. ltb 0 (length (listed l.lists later l.k))) (range_with_len (l.version + 1) (length l.lists - (l.version + 1)))
    ≡ list_any (λ later. ltb 0 (length (listed l.lists later l.k))) (range_with_len l.later (length l.lists - l.later))
