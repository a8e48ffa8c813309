use Rattle.pull_codec.proofs.CallLaws.{calls-heard, runs-heard, runs-read, runs-served}
use Rattle.pull_codec.proofs.laws.calls_are_heard.Goals as goal

pub returns-clause-one : goal.returns-clause-one
returns-clause-one c = calls-heard

pub returns-clause-several : goal.returns-clause-several
returns-clause-several c = runs-heard

pub returns-clause-read : goal.returns-clause-read
returns-clause-read c = runs-read

pub returns-clause-served : goal.returns-clause-served
returns-clause-served c = runs-served
