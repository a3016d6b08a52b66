-- The numbers that the standard assigns: parameter groups, addresses, the control bytes of both transport
-- protocols, and the functions of messages (ISO 11783-3, -5, -6 and -7). Also the timeouts of the profile.
use Rattle.std.specs.Prelude.{ℕ}

-- Parameter groups

-- messages of an implement to the virtual terminal
abbrev pub ECU_TO_VT : ℕ
ECU_TO_VT = 0xE700

-- messages of the virtual terminal to an implement
abbrev pub VT_TO_ECU : ℕ
VT_TO_ECU = 0xE600

-- the request for a parameter group
abbrev pub REQUEST : ℕ
REQUEST = 0xEA00

-- Address Claimed, and Cannot Claim
abbrev pub ADDRESS_CLAIMED : ℕ
ADDRESS_CLAIMED = 0xEE00

-- the master of a working set, with the number of its members
abbrev pub WORKING_SET_MASTER : ℕ
WORKING_SET_MASTER = 0xFE0D

-- a member of a working set
abbrev pub WORKING_SET_MEMBER : ℕ
WORKING_SET_MEMBER = 0xFE0C

-- connection management of the transport protocol
abbrev pub TP_CM : ℕ
TP_CM = 0xEC00

-- data transfer of the transport protocol
abbrev pub TP_DT : ℕ
TP_DT = 0xEB00

-- connection management of the extended transport protocol
abbrev pub ETP_CM : ℕ
ETP_CM = 0xC800

-- data transfer of the extended transport protocol
abbrev pub ETP_DT : ℕ
ETP_DT = 0xC700

-- Addresses

-- the source address of Cannot Claim, sent by a node without an address
abbrev pub NULL_ADDRESS : ℕ
NULL_ADDRESS = 254

-- the destination address of a frame to all nodes
abbrev pub GLOBAL_ADDRESS : ℕ
GLOBAL_ADDRESS = 255

-- Control bytes

-- request to send
abbrev pub TP_RTS : ℕ
TP_RTS = 0x10

-- clear to send
abbrev pub TP_CTS : ℕ
TP_CTS = 0x11

-- end of message acknowledgement
abbrev pub TP_END : ℕ
TP_END = 0x13

-- extended request to send
abbrev pub ETP_RTS : ℕ
ETP_RTS = 0x14

-- extended clear to send
abbrev pub ETP_CTS : ℕ
ETP_CTS = 0x15

-- extended data packet offset
abbrev pub ETP_DPO : ℕ
ETP_DPO = 0x16

-- extended end of message acknowledgement
abbrev pub ETP_END : ℕ
ETP_END = 0x17

-- the abort of a session, in both protocols
abbrev pub ABORT : ℕ
ABORT = 0xFF

-- Functions, the first bytes of messages. Those of commands and of the operator's messages stand with the commands.

-- Object Pool Transfer: a piece of an object pool
abbrev pub TRANSFER : ℕ
TRANSFER = 0x11

-- End of Object Pool, and its reply
abbrev pub END_OF_POOL : ℕ
END_OF_POOL = 0x12

-- Get Memory, and its reply
abbrev pub GET_MEMORY : ℕ
GET_MEMORY = 0xC0

-- Get Number of Soft Keys, and its reply
abbrev pub GET_SOFT_KEYS : ℕ
GET_SOFT_KEYS = 0xC2

-- Get Text Font Data, and its reply
abbrev pub GET_FONTS : ℕ
GET_FONTS = 0xC3

-- Get Hardware, and its reply
abbrev pub GET_HARDWARE : ℕ
GET_HARDWARE = 0xC7

-- VT Status
abbrev pub VT_STATUS : ℕ
VT_STATUS = 0xFE

-- Other bytes

-- a reserved byte
abbrev pub FILL : ℕ
FILL = 0xFF

-- in a request to send: a CTS may ask for any number of packets
abbrev pub NO_LIMIT : ℕ
NO_LIMIT = 0xFF

-- Timeouts, in microseconds

-- the longest time that a session of the TP receiver stays open without one of its frames (docs/PROFILE.md, "Timeouts")
abbrev pub TP_TIMEOUT : ℕ
TP_TIMEOUT = 1250000

-- the longest time that a session of the ETP receiver stays open without one of its frames (docs/PROFILE.md, "Timeouts")
abbrev pub ETP_TIMEOUT : ℕ
ETP_TIMEOUT = 1250000

-- the longest time that a session of the TP sender stays open without one of its frames (docs/PROFILE.md, "Timeouts")
abbrev pub SENDER_TIMEOUT : ℕ
SENDER_TIMEOUT = 1250000
