use Rattle.http_heads.proofs.ResponseLemmas.{unnamed-never, named-whole, named-long}
use Rattle.http_heads.proofs.response.read_whole_response.Goals as goal

pub returns-in_default-clause-front : goal.returns-in_default-clause-front
returns-in_default-clause-front c =
    unnamed-never c.args.start.now c.args.spans.now c.args.head c.requires.at.0 c.requires.at.1 c.requires.within c.requires.fits
    c.new-fields.result c.new-fields.ensures c.length_text.result c.length_text.ensures c.in_default.is

pub returns-in-Some-read_length-clause-front : goal.returns-in-Some-read_length-clause-front
returns-in-Some-read_length-clause-front c =
    named-whole c.args.start.now c.args.spans.now c.args.head c.requires.at.0 c.requires.at.1 c.requires.within c.requires.fits
    c.new-fields.result c.new-fields.ensures c.length_text.result c.length_text.ensures c.in-Some.text c.in-Some-read_length.length
    c.in-Some.is c.in-Some-read_length.ensures.1 c.in-Some-read_length.ensures.2

pub returns-in-None-clause-front : goal.returns-in-None-clause-front
returns-in-None-clause-front c =
    named-long c.args.start.now c.args.spans.now c.args.head c.requires.at.0 c.requires.at.1 c.requires.within c.requires.fits
    c.new-fields.result c.new-fields.ensures c.length_text.result c.length_text.ensures c.in-Some.text c.in-Some.is c.in-None.ensures
