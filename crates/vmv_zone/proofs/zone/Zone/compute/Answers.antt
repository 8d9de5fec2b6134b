use Rattle.vmv_zone.proofs.zone.Zone.compute.Goals as goal

pub returns-in-Div : goal.returns-in-Div
returns-in-Div c = rw c.in-Div.is c.divide.ensures

pub returns-in-Rem : goal.returns-in-Rem
returns-in-Rem c = rw c.in-Rem.is c.reduce.ensures
