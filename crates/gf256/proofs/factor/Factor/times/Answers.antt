use Rattle.gf256.proofs.Lookup.{high_ok, low_ok, products_looked_up}
use Rattle.gf256.proofs.factor.Factor.times.Goals as goal

pub swizzle-by_high : goal.swizzle-by_high
swizzle-by_high c = high_ok c.args.bytes c.fits-bytes

pub swizzle-by_low : goal.swizzle-by_low
swizzle-by_low c = low_ok c.args.bytes c.fits-bytes

pub returns : goal.returns
returns c =
    let f = c.args.self.now in
    products_looked_up f.value.0 f.low f.high c.args.bytes c.fits-bytes f.low_products f.high_products
