use Rattle.push_codec.specs.Codec.{may_one}
use Rattle.push_work.proofs.laws.pushes_are_served.Goals as goal

pub returns : goal.returns
returns c = λ defaults p q calls s few xs talk ranged.
    c.heard_calls_are_served.ensures.served c.pushes_are_coded.ensures.requests may_one defaults (c.pushes_are_coded.ensures.codec defaults)
    p q calls s few xs talk ranged
