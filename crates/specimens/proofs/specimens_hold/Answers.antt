use Rattle.specimens.proofs.Computed.{specimens}
use Rattle.specimens.proofs.specimens_hold.Goals as goal

pub returns : goal.returns
returns c = specimens
