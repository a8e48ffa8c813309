use Rattle.browse_http.proofs.TalkLemmas.{uncalled_ended, uncalled_truncated, uncalled_bad, uncalled_fault, uncalled_head_memory}
use Rattle.browse_http.proofs.heads.take_head.Goals as goal

pub returns-in-Ended-clause-ends : goal.returns-in-Ended-clause-ends
returns-in-Ended-clause-ends g c = uncalled_ended _ _ _ _ c.in-Ended.ensures.read c.in-Ended.ensures.wrote

pub returns-in-Truncated-clause-ends : goal.returns-in-Truncated-clause-ends
returns-in-Truncated-clause-ends g c = uncalled_truncated _ _ _ _ c.in-Truncated.ensures.read c.in-Truncated.ensures.wrote

pub returns-in-Bad-clause-ends : goal.returns-in-Bad-clause-ends
returns-in-Bad-clause-ends g c =
    uncalled_bad _ _ _ _ _ _ _ _ _ c.in-Bad.ensures.read c.in-Bad.ensures.wrote c.refuse.ensures.left c.refuse.ensures.says

pub returns-in-LinkFault-clause-ends : goal.returns-in-LinkFault-clause-ends
returns-in-LinkFault-clause-ends g c = uncalled_fault _ _ _ _ c.in-LinkFault.ensures.read c.in-LinkFault.ensures.wrote

pub returns-in-Memory-clause-ends : goal.returns-in-Memory-clause-ends
returns-in-Memory-clause-ends g c =
    uncalled_head_memory _ _ _ _ _ _ _ c.in-Memory.ensures.read c.in-Memory.ensures.wrote c.give_up.ensures.left c.give_up.ensures.says
