use Rattle.rina_conn.proofs.sending.Sending.sends_none_until.Goals as goal

pub returns-clause-before : goal.returns-clause-before
returns-clause-before c = record { again = λ t lt k m st. c.still_until.ensures.before.again t lt k _ m st.tx; given_up = λ t lt k m st. c.still_until.ensures.before.given_up t lt k _ m st.tx }

pub returns-clause-from : goal.returns-clause-from
returns-clause-from c = λ k m st low. c.still_until.ensures.from k _ m st.tx low
