use Rattle.vmv_forward.proofs.Listed.{pushed, more_same}
use Rattle.vmv_forward.proofs.waiting.put.Goals as goal

pub returns-in-None-clause-there : goal.returns-in-None-clause-there
returns-in-None-clause-there c = (pushed c.args.waiting.now c.push_back.new.self c.args.list c.args.number c.requires.room c.requires.list c.requires.from c.push_back.ensures.lists c.push_back.ensures.size).1

pub returns-in-None-clause-more : goal.returns-in-None-clause-more
returns-in-None-clause-more c = (pushed c.args.waiting.now c.push_back.new.self c.args.list c.args.number c.requires.room c.requires.list c.requires.from c.push_back.ensures.lists c.push_back.ensures.size).0

pub returns-in-None-clause-load : goal.returns-in-None-clause-load
returns-in-None-clause-load c = (pushed c.args.waiting.now c.push_back.new.self c.args.list c.args.number c.requires.room c.requires.list c.requires.from c.push_back.ensures.lists c.push_back.ensures.size).2

pub returns-in-Some-clause-there : goal.returns-in-Some-clause-there
returns-in-Some-clause-there c = (c.in-Some._list, (c.is_in.ensures.list c.in-Some._list).0 c.in-Some.is)

pub returns-in-Some-clause-more : goal.returns-in-Some-clause-more
returns-in-Some-clause-more c = more_same c.args.waiting.now c.requires.room
