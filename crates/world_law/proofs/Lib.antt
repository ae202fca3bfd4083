-- Numbers, lists and tables.
pub mod Tests
pub mod Tables
pub mod Lists
pub mod Places
pub mod Quorums
pub mod Votes
-- The invariant, what follows from it within one world, and what stays true in a later one.
pub mod Invariant
pub mod CommitsStay
pub mod Later
-- Nodes.
pub mod NodeFrame
pub mod NodeVotes
pub mod NodeSteps
pub mod NodeReplies
pub mod NodeCrashes
-- Servers.
pub mod ServerFrame
pub mod ServerAcks
pub mod Choices
pub mod ServerReports
pub mod ServerFetches
pub mod ServerReplies
pub mod LightFrame
pub mod ServerSends
pub mod ServerAssigns
-- Events, and the one log.
pub mod Deliveries
pub mod Events
pub mod OneLog
pub mod OneLogFound
-- Clients.
pub mod Served
pub mod Shown
pub mod ServedFrame
pub mod ServedEvents
-- Every event, and every run.
pub mod Steps
pub mod Runs
pub mod SafeRuns
-- Where transactions come from.
pub mod Origins
pub mod OriginEvents
pub mod Requests
pub mod EnterOnce
pub mod Touched
pub mod ValidReads
-- Sessions, promises and envelopes.
pub mod SoundSteps
pub mod SoundEvents
pub mod SoundRuns
-- A run that is computed.
pub mod Sanity
