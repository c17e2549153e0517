mod OneTape
