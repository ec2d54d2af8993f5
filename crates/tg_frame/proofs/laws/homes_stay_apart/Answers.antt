use Rattle.tg_frame.proofs.Apart.{drawn_stays, all_drawn, drawn_at, differ_at, drawn_differs}
use Rattle.tg_frame.proofs.laws.homes_stay_apart.Goals as goal

pub returns-clause-drawn : goal.returns-clause-drawn
returns-clause-drawn c = λ f. all_drawn f.params f.slots f.temps f.slots_below f.temps_below

pub returns-clause-parameters : goal.returns-clause-parameters
returns-clause-parameters c = λ f i j a b ne e g. differ_at f.params i j a b f.distinct ne e g

pub returns-clause-stays : goal.returns-clause-stays
returns-clause-stays c = λ slots temps slots' temps' home ls lt d. drawn_stays slots temps slots' temps' home ls lt d

pub returns-clause-locals : goal.returns-clause-locals
returns-clause-locals c = λ f slots temps i home later ls lt e h.
    drawn_differs slots temps home later (drawn_stays f.slots f.temps slots temps home ls lt
    (drawn_at f.params f.slots f.temps i home f.slots_below f.temps_below e)) h
