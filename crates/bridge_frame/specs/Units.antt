-- What the code keeps of units, as what is under way.
use Rattle.bridge_frame.specs.declared.bridge.Units.{Units}
use Rattle.bridge_frame.specs.declared.bridge.Units.TheVariants.{Sndus, Pdus}
use Rattle.bridge_frame.specs.Bridge.{UnderWay, of_sndus, of_pdus}

abbrev pub under_way : {A : Type 0} → Units A → UnderWay
under_way (Sndus state) = of_sndus state
under_way (Pdus state) = of_pdus state
