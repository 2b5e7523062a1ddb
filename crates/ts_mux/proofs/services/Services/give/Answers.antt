use Rattle.std.proofs.Common.{◌<◌, arith, length, ap}
use Rattle.std.proofs.lemmas.List.{length-map}
use Rattle.time_slice.specs.Views.{windows_in}
use Rattle.ts_mux.specs.Services.{bursts_in, Serving}
use Rattle.ts_mux.proofs.Served.{known_way, given}
use Rattle.ts_mux.proofs.services.Services.give.Goals as goal

pub returns : goal.returns
returns c =
    let known : c.args.k < length c.self.inside.services.items
    = omega (arith, known_way c.args.self.now.bursts c.args.k c.requires.some, ap (λ (s : Serving). length s.bursts) c.self.view_is, length-map c.self.inside.services.items bursts_in) in
    record {
      given = given c.self.inside.services.items (windows_in c.self.inside.windows.items) c.self.inside.first c.args.k c.index_mut.result.now c.give.new.self known c.index_mut.ensures.value
          c.args.self.now c.self.view_is c.give.ensures.next.0 c.give.new.into c.give.ensures.next.1 c.give.ensures.next.2 c.give.ensures.left c.give.ensures.sizes c.give.ensures.turns c.give.ensures.shape c.give.ensures.behind;
    }
